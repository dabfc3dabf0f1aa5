-- Each change of a state keeps it sound
use Rattle.std.proofs.Common.{◌≡◌, ◌<◌, ◌≤◌, ℕ, ◌==◌, Bool, true, false, cond, not, ◌&&◌, List, Option, Some, None, IsTrue, IsFalse, refl, sym, ap, subst, ◌∙◌, inl, inr, is_some, option_and_then, eqb-true, unwrap_or, arith}
use Rattle.std.specs.Option.{option_map_or}
use Rattle.std.specs.declared.cmp.Ordering.{Ordering}
use Rattle.std.specs.declared.cmp.Ordering.TheVariants.{Less, Equal, Greater}
use Rattle.std.specs.Ordering.{is_eq}
use Rattle.std.specs.FinMap.{FinMap, get}
use Rattle.az_base.specs.declared.block_id.BlockId.{BlockId}
use Rattle.az_base.specs.declared.weak_loc.WeakLoc.{WeakLoc}
use Rattle.az_base.specs.declared.weak_loc.WeakLoc.TheVariants as weak
use Rattle.az_base.specs.Ids.{id_cmp, among, ids_total, exact_ids}
use Rattle.az_base.specs.Places.{pair_cmp, loc_cmp, pairs_total, locs_total, exact_pair, exact_locs}
use Rattle.zone_model.specs.State.{State, Block, Cycle, with_register, with_root, with_count, with_assoc, with_weak, with_cycle, without_blocks, positive_count, count_of, is_escaped, is_own}
use Rattle.zone_model.specs.Quanta.{used_quanta, quanta_where}
use Rattle.zone_model.specs.Reach.{WordEdge}
use Rattle.az_base.proofs.Tables.{get-with_value}
use Rattle.zone_model.specs.Sound.{Knows, MayRefer, is_started}
use Rattle.zone_model.proofs.Intact.{Intact}
use Rattle.zone_model.proofs.Blocks.{is_out, is_inside, left_get, and_first}
use Rattle.zone_model.proofs.Sums.{left_less}

-- the block had escaped when the cycle began, or is condemned
abbrev pub start_of : Option Cycle → BlockId → Bool
start_of c b = option_map_or (λ (k : Cycle). k.start b) c false

abbrev pub condemned_of : Option Cycle → BlockId → Bool
condemned_of c b = option_map_or (λ r. among r b) (option_and_then (λ (k : Cycle). k.condemned) c) false

module _ (z : State) (s : Intact z) where
  -- a register gets what its thread knows
  pub register_intact : (t r : ℕ) (v : Option BlockId) → ((b : BlockId) → v ≡ Some b → Knows z t b) → Intact (with_register z t r v)
  register_intact t r v knows = record {
    names = record {
      registers = λ u q b h. by_test u q b ((t == u) && (r == q)) refl h;
      roots = s.names.roots;
      words = s.names.words;
      counts = s.names.counts;
      objects = s.names.objects;
      values = s.names.values;
      shown = s.names.shown;
      showing = s.names.showing;
    };
    cycle = record { started = s.cycle.started; condemned = s.cycle.condemned; cleared = s.cycle.cleared };
    used = s.used;
  }
    where
      by_test : (u q : ℕ) (b : BlockId) (c : Bool) → ((t == u) && (r == q)) ≡ c → cond c v (z.registers u q) ≡ Some b → Knows z u b
      by_test u q b true e h = subst (λ u. Knows z u b) (eqb-true t u (and_first (t == u) (r == q) e)) (knows b h)
      by_test u q b false e h = s.names.registers u q b h

  pub root_intact : (g : ℕ) (v : Option BlockId) → ((b : BlockId) → v ≡ Some b → IsTrue (is_escaped z b)) → Intact (with_root z g v)
  root_intact g v out = record {
    names = record {
      registers = s.names.registers;
      roots = λ q b h. by_test q b (g == q) h;
      words = s.names.words;
      counts = s.names.counts;
      objects = s.names.objects;
      values = s.names.values;
      shown = s.names.shown;
      showing = s.names.showing;
    };
    cycle = record { started = s.cycle.started; condemned = s.cycle.condemned; cleared = s.cycle.cleared };
    used = s.used;
  }
    where
      by_test : (q : ℕ) (b : BlockId) (c : Bool) → cond c v (z.roots q) ≡ Some b → IsTrue (is_escaped z b)
      by_test q b true h = out b h
      by_test q b false h = s.names.roots q b h

  pub count_intact : (id : BlockId) (n : ℕ) → IsTrue (is_escaped z id) → Intact (with_count z id n)
  count_intact id n out = record {
    names = record {
      registers = s.names.registers;
      roots = s.names.roots;
      words = s.names.words;
      counts = λ b h. by_key b (id_cmp b id) refl (subst (λ o. 0 < unwrap_or o 0) (get-with_value ids_total z.counts id (positive_count n) b) h);
      objects = s.names.objects;
      values = s.names.values;
      shown = s.names.shown;
      showing = s.names.showing;
    };
    cycle = record { started = s.cycle.started; condemned = s.cycle.condemned; cleared = s.cycle.cleared };
    used = s.used;
  }
    where
      by_key : (b : BlockId) (r : Ordering) → id_cmp b id ≡ r → 0 < unwrap_or (cond (is_eq r) (positive_count n) (get z.counts b)) 0 → IsTrue (is_escaped z b)
      by_key b Less e h = s.names.counts b h
      by_key b Equal e h = ap (is_escaped z) (exact_ids b id e) ∙ out
      by_key b Greater e h = s.names.counts b h

  pub assoc_intact : (object : BlockId) (key : ℕ) (v : Option BlockId) → IsTrue (is_escaped z object) → ((b : BlockId) → v ≡ Some b → IsTrue (is_escaped z b)) → Intact (with_assoc z object key v)
  assoc_intact object key v out value = record {
    names = record {
      registers = s.names.registers;
      roots = s.names.roots;
      words = s.names.words;
      counts = s.names.counts;
      objects = λ a k b h. object_of a k b (pair_cmp (a, k) (object, key)) refl (sym (get-with_value pairs_total z.assocs (object, key) v (a, k)) ∙ h);
      values = λ a k b h. value_of a k b (pair_cmp (a, k) (object, key)) refl (sym (get-with_value pairs_total z.assocs (object, key) v (a, k)) ∙ h);
      shown = s.names.shown;
      showing = s.names.showing;
    };
    cycle = record { started = s.cycle.started; condemned = s.cycle.condemned; cleared = s.cycle.cleared };
    used = s.used;
  }
    where
      object_of : (a : BlockId) (k : ℕ) (b : BlockId) (r : Ordering) → pair_cmp (a, k) (object, key) ≡ r → cond (is_eq r) v (get z.assocs (a, k)) ≡ Some b → IsTrue (is_escaped z a)
      object_of a k b Less e h = s.names.objects a k b h
      object_of a k b Equal e h = ap (λ (p : BlockId × ℕ). is_escaped z p.0) (exact_pair (a, k) (object, key) e) ∙ out
      object_of a k b Greater e h = s.names.objects a k b h

      value_of : (a : BlockId) (k : ℕ) (b : BlockId) (r : Ordering) → pair_cmp (a, k) (object, key) ≡ r → cond (is_eq r) v (get z.assocs (a, k)) ≡ Some b → IsTrue (is_escaped z b)
      value_of a k b Less e h = s.names.values a k b h
      value_of a k b Equal e h = value b h
      value_of a k b Greater e h = s.names.values a k b h

  -- a weak location comes to show an escaped block that isn't condemned
  pub weak_intact : (l : WeakLoc) (v : Option BlockId) → ((a : BlockId) (at : ℕ) → l ≡ weak.Word a at → IsTrue (is_escaped z a)) → ((b : BlockId) → v ≡ Some b → IsTrue (is_escaped z b) × IsFalse (condemned_of z.cycle b)) → Intact (with_weak z l v)
  weak_intact l v place value = record {
    names = record {
      registers = s.names.registers;
      roots = s.names.roots;
      words = s.names.words;
      counts = s.names.counts;
      objects = s.names.objects;
      values = s.names.values;
      shown = λ k b h. shown_at k b (loc_cmp k l) (sym (get-with_value locs_total z.weak l v k) ∙ h);
      showing = λ a at b h. showing_at a at b (loc_cmp (weak.Word a at) l) refl (sym (get-with_value locs_total z.weak l v (weak.Word a at)) ∙ h);
    };
    cycle = record {
      started = s.cycle.started;
      condemned = s.cycle.condemned;
      cleared = λ k b h. cleared_at k b (loc_cmp k l) (sym (get-with_value locs_total z.weak l v k) ∙ h);
    };
    used = s.used;
  }
    where
      shown_at : (k : WeakLoc) (b : BlockId) (r : Ordering) → cond (is_eq r) v (get z.weak k) ≡ Some b → IsTrue (is_escaped z b)
      shown_at k b Less h = s.names.shown k b h
      shown_at k b Equal h = (value b h).0
      shown_at k b Greater h = s.names.shown k b h

      showing_at : (a : BlockId) (at : ℕ) (b : BlockId) (r : Ordering) → loc_cmp (weak.Word a at) l ≡ r → cond (is_eq r) v (get z.weak (weak.Word a at)) ≡ Some b → IsTrue (is_escaped z a)
      showing_at a at b Less e h = s.names.showing a at b h
      showing_at a at b Equal e h = place a at (sym (exact_locs (weak.Word a at) l e))
      showing_at a at b Greater e h = s.names.showing a at b h

      cleared_at : (k : WeakLoc) (b : BlockId) (r : Ordering) → cond (is_eq r) v (get z.weak k) ≡ Some b → IsFalse (condemned_of z.cycle b)
      cleared_at k b Less h = s.cycle.cleared k b h
      cleared_at k b Equal h = (value b h).1
      cleared_at k b Greater h = s.cycle.cleared k b h

  -- fewer weak locations, fewer associations, another cycle
  pub weak_less : (m : FinMap loc_cmp BlockId) → ((l : WeakLoc) (b : BlockId) → get m l ≡ Some b → get z.weak l ≡ Some b) → Intact (record z { weak = m })
  weak_less m was = record {
    names = record {
      registers = s.names.registers;
      roots = s.names.roots;
      words = s.names.words;
      counts = s.names.counts;
      objects = s.names.objects;
      values = s.names.values;
      shown = λ l b h. s.names.shown l b (was l b h);
      showing = λ a at b h. s.names.showing a at b (was (weak.Word a at) b h);
    };
    cycle = record {
      started = s.cycle.started;
      condemned = s.cycle.condemned;
      cleared = λ l b h. s.cycle.cleared l b (was l b h);
    };
    used = s.used;
  }

  pub assocs_less : (m : FinMap pair_cmp BlockId) → ((p : BlockId × ℕ) (b : BlockId) → get m p ≡ Some b → get z.assocs p ≡ Some b) → Intact (record z { assocs = m })
  assocs_less m was = record {
    names = record {
      registers = s.names.registers;
      roots = s.names.roots;
      words = s.names.words;
      counts = s.names.counts;
      objects = λ a k b h. s.names.objects a k b (was (a, k) b h);
      values = λ a k b h. s.names.values a k b (was (a, k) b h);
      shown = s.names.shown;
      showing = s.names.showing;
    };
    cycle = record { started = s.cycle.started; condemned = s.cycle.condemned; cleared = s.cycle.cleared };
    used = s.used;
  }

  pub cycle_intact : (c : Option Cycle) → ((b : BlockId) → IsTrue (start_of c b) → IsTrue (is_escaped z b)) → ((b : BlockId) → IsTrue (condemned_of c b) → IsTrue (start_of c b))
      → ((l : WeakLoc) (b : BlockId) → get z.weak l ≡ Some b → IsFalse (condemned_of c b)) → Intact (with_cycle z c)
  cycle_intact c started condemned cleared = record {
    names = record {
      registers = s.names.registers;
      roots = s.names.roots;
      words = s.names.words;
      counts = s.names.counts;
      objects = s.names.objects;
      values = s.names.values;
      shown = s.names.shown;
      showing = s.names.showing;
    };
    cycle = record {
      started = started;
      condemned = condemned;
      cleared = cleared;
    };
    used = s.used;
  }

  -- other blocks, of which no thread knows less
  pub grown_intact : (m : FinMap id_cmp Block) → ((b : BlockId) → IsTrue (is_escaped z b) → IsTrue (is_out (get m b))) → ((t : ℕ) (b : BlockId) → IsTrue (is_own z t b) → Knows (record z { blocks = m }) t b)
      → ((a b : BlockId) → WordEdge m a b → MayRefer (record z { blocks = m }) a b) → quanta_where (λ id b. is_some b.since) m ≤ z.options.heap_quanta → Intact (record z { blocks = m })
  grown_intact m out own words fits = record {
    names = record {
      registers = λ t r b h. knows t b (s.names.registers t r b h);
      roots = λ g b h. out b (s.names.roots g b h);
      words = words;
      counts = λ b h. out b (s.names.counts b h);
      objects = λ a k b h. out a (s.names.objects a k b h);
      values = λ a k b h. out b (s.names.values a k b h);
      shown = λ l b h. out b (s.names.shown l b h);
      showing = λ a at b h. out a (s.names.showing a at b h);
    };
    cycle = record {
      started = λ b h. out b (s.cycle.started b h);
      condemned = s.cycle.condemned;
      cleared = s.cycle.cleared;
    };
    used = fits;
  }
    where
      knows : (t : ℕ) (b : BlockId) → Knows z t b → Knows (record z { blocks = m }) t b
      knows t b (inl e) = inl (out b e)
      knows t b (inr e) = own t b e

  -- blocks are gone to which nothing refers that is left
  pub removed_intact : (ids : List BlockId) → ((t r : ℕ) (b : BlockId) → z.registers t r ≡ Some b → among ids b ≡ false) → ((g : ℕ) (b : BlockId) → z.roots g ≡ Some b → among ids b ≡ false)
      → ((a b : BlockId) → WordEdge z.blocks a b → among ids a ≡ false → among ids b ≡ false) → ((b : BlockId) → 0 < count_of z b → among ids b ≡ false)
      → ((a : BlockId) (k : ℕ) (b : BlockId) → get z.assocs (a, k) ≡ Some b → (among ids a ≡ false) × (among ids b ≡ false)) → ((l : WeakLoc) (b : BlockId) → get z.weak l ≡ Some b → among ids b ≡ false)
      → ((a : BlockId) (at : ℕ) (b : BlockId) → get z.weak (weak.Word a at) ≡ Some b → among ids a ≡ false) → ((b : BlockId) → IsTrue (is_started z b) → among ids b ≡ false) → Intact (without_blocks z ids)
  removed_intact ids registers roots words counts assocs shown showing started = record {
    names = record {
      registers = λ t r b h. knows t b (registers t r b h) (s.names.registers t r b h);
      roots = λ g b h. out b (roots g b h) (s.names.roots g b h);
      words = edges;
      counts = λ b h. out b (counts b h) (s.names.counts b h);
      objects = λ a k b h. out a (assocs a k b h).0 (s.names.objects a k b h);
      values = λ a k b h. out b (assocs a k b h).1 (s.names.values a k b h);
      shown = λ l b h. out b (shown l b h) (s.names.shown l b h);
      showing = λ a at b h. out a (showing a at b h) (s.names.showing a at b h);
    };
    cycle = record {
      started = λ b h. out b (started b h) (s.cycle.started b h);
      condemned = s.cycle.condemned;
      cleared = s.cycle.cleared;
    };
    used = let less : used_quanta (without_blocks z ids) ≤ used_quanta z = left_less ids_total exact_ids _ z.blocks (λ id. not (among ids id)) in omega (arith, less, s.used);
  }
    where
      same : (b : BlockId) → among ids b ≡ false → get (without_blocks z ids).blocks b ≡ get z.blocks b
      same b h = left_get z.blocks (among ids) b ∙ ap (λ t. cond t None (get z.blocks b)) h

      out : (b : BlockId) → among ids b ≡ false → IsTrue (is_escaped z b) → IsTrue (is_escaped (without_blocks z ids) b)
      out b left h = ap is_out (same b left) ∙ h

      own : (t : ℕ) (b : BlockId) → among ids b ≡ false → IsTrue (is_own z t b) → IsTrue (is_own (without_blocks z ids) t b)
      own t b left h = ap (λ o. (b.thread == t) && is_inside o) (same b left) ∙ h

      knows : (t : ℕ) (b : BlockId) → among ids b ≡ false → Knows z t b → Knows (without_blocks z ids) t b
      knows t b left (inl e) = inl (out b left e)
      knows t b left (inr e) = inr (own t b left e)

      may : (a b : BlockId) → among ids a ≡ false → among ids b ≡ false → MayRefer z a b → MayRefer (without_blocks z ids) a b
      may a b here there (inl e) = inl (out b there e)
      may a b here there (inr e) = inr (ap is_inside (same a here) ∙ e.0, own a.thread b there e.1)

      edges : (a b : BlockId) → WordEdge (without_blocks z ids).blocks a b → MayRefer (without_blocks z ids) a b
      edges a b e = by_test (among ids a) refl (sym (left_get z.blocks (among ids) a) ∙ e.2)
        where
          by_test : (t : Bool) → among ids a ≡ t → cond t None (get z.blocks a) ≡ Some e.0 → MayRefer (without_blocks z ids) a b
          by_test true is h = cc (h)
          by_test false is h =
              let edge : WordEdge z.blocks a b = (e.0, e.1, h, e.3) in
              may a b is (words a b edge is) (s.names.words a b edge)
