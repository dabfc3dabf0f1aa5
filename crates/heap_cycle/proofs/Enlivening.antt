-- What enlivening a block over the tables of a heap makes
use Rattle.std.proofs.Common.{◌≡◌, ◌≢◌, ◌≤◌, ◌&&◌, ◌||◌, true, false, cond, [], ◌∷◌, Some, None, IsTrue, count_by, length, slice_get, refl, sym, ap, subst, ◌∙◌, ◌⊎◌, inl, inr, arith}
use Rattle.std.specs.FinMap.{empty}
use Rattle.az_base.specs.declared.block_id.BlockId.{BlockId}
use Rattle.az_base.specs.Ids.{among, same_id}
use Rattle.az_base.proofs.Ids.{same_self}
use Rattle.quantum_space.specs.declared.shade.Shade.{Shade}
use Rattle.quantum_space.specs.declared.shade.Shade.TheVariants as shade
use Rattle.quantum_space.specs.Shapes.{Has, Shape, Shades}
use Rattle.quantum_space.proofs.Lists.{among_has, has_or_not, same_or_not}
use Rattle.gen_marker.specs.Marking.{Enlivens, Greys, Marking, Tracks, is_white}
use Rattle.gen_marker.specs.Tight.{AtBegin, Tight}
use Rattle.gen_marker.proofs.Marks.{white_or_not}
use Rattle.gen_marker.proofs.Tight.{tight_changed}
use Rattle.zone_model.specs.Room.{WithRoom}
use Rattle.heap_tables.specs.Graphs.{graph_of, shades_of}
use Rattle.heap_tables.specs.Unshaded.{unshaded}
use Rattle.heap_tables.specs.declared.tables.Tables.{Tables}
use Rattle.heap_cycle.specs.Collector.{Collecting, shade_in}
use Rattle.heap_cycle.specs.Collects.{Collects, KeepsPhase, Marks, collecting, collector_of, condemned_at, is_old_at, start_of}
use Rattle.heap_cycle.specs.Livening.{Livens, enlivened, of_option}
use Rattle.heap_cycle.specs.Livening as cycles
use Rattle.heap_cycle.specs.Waiting.{awaits_in}
use Rattle.heap_cycle.specs.declared.open_cycle.OpenCycle.{OpenCycle}
use Rattle.heap_cycle.specs.declared.open_cycle.Phase.TheVariants as phase
use Rattle.heap_cycle.proofs.Bare.{cards_unshaded}
use Rattle.heap_cycle.proofs.Slicing.{marking_shade}

-- a block that is enlivened is one that is greyed
greyed_one : (s : Shape) (id : BlockId) (old new : Shades) → Enlivens s.blocks id old new → Greys (AtBegin s (id ∷ [])) old new
greyed_one s id old new en = record { done = done; same = same }
  where
    dark : Has s.blocks id → new id ≢ shade.White
    dark h w = elim (white_or_not (old id)) [
      | inl white ↦ let clash : shade.Grey ≡ shade.White = sym (en.greyed h white) ∙ w in cc (clash)
      | inr d ↦ absurd (d (sym (en.dark d) ∙ w))
    ]

    done : (b : BlockId) → AtBegin s (id ∷ []) b → new b ≢ shade.White
    done b (inl e, h) = subst (λ x. new x ≢ shade.White) e (dark (subst (Has s.blocks) (sym e) h))
    done b (inr none, h) = absurd none

    here : (new id ≡ old id) ⊎ (AtBegin s (id ∷ []) id × (old id ≡ shade.White) × (new id ≡ shade.Grey))
    here = elim (white_or_not (old id)) [
      | inr d ↦ inl (en.dark d)
      | inl white ↦ elim (has_or_not s.blocks id) [
        | inl h ↦ inr ((inl refl, h), white, en.greyed h white)
        | inr out ↦ inl (en.outside out)
      ]
    ]

    same : (b : BlockId) → (new b ≡ old b) ⊎ (AtBegin s (id ∷ []) b × (old b ≡ shade.White) × (new b ≡ shade.Grey))
    same b = elim (same_or_not b id) [
      | inl e ↦ subst (λ x. (new x ≡ old x) ⊎ (AtBegin s (id ∷ []) x × (old x ≡ shade.White) × (new x ≡ shade.Grey))) (sym e) here
      | inr n ↦ inl (en.others b n.0)
    ]

module _ (old new : Tables) (before after : OpenCycle) (m n : Marking) (reply kept : WithRoom) (id : BlockId) (marking : before.phase ≡ phase.Marking m reply kept) (is : after ≡ record before { phase = phase.Marking n reply kept })
    (same : unshaded new ≡ unshaded old) (tracks : Tracks n (graph_of new).blocks (shades_of new)) (mode : n.mode ≡ m.mode) (en : Enlivens (start_of old) id (shades_of old) (shades_of new)) where
  fresh : condemned_at before.phase ≡ None
  fresh = ap condemned_at marking

  still : condemned_at after.phase ≡ None
  still = ap (λ (o : OpenCycle). condemned_at o.phase) is

  greys : Greys (AtBegin (graph_of old) (id ∷ [])) (shades_of old) (shades_of new)
  greys = greyed_one (graph_of old) id (shades_of old) (shades_of new) en

  marks_of : Marks old before m reply kept → Marks new after n reply kept
  marks_of k = record {
    mode = mode ∙ k.mode ∙ sym (ap (λ (o : OpenCycle). o.mode) is);
    tracks = tracks;
    tight = subst (λ v. Tight v (graph_of new) (shades_of new)) (sym (ap (λ (o : OpenCycle). o.mode) is)) (subst (λ (s : Shape). Tight before.mode s (shades_of new)) (sym (ap graph_of same))
        (tight_changed before.mode (graph_of old) (graph_of old) (id ∷ []) (shades_of old) (shades_of new) (record { blocks = refl; young = λ x h. refl; edge = λ x y e. inl e }) greys k.tight));
    left =
        let e : count_by (awaits_in new.blocks.blocks) (start_of new) ≡ count_by (awaits_in old.blocks.blocks) (start_of old) = ap (λ (t : Tables). count_by (awaits_in t.blocks.blocks) (start_of t)) same in
        let l : after.left ≡ before.left = ap (λ (o : OpenCycle). o.left) is in
        let was = k.left in omega (arith, e, l, was);
    empty = k.empty;
    reply_room = subst (λ l. length l ≤ reply.spare) (sym (ap start_of same)) k.reply_room;
    kept_room = subst (λ l. length l ≤ kept.spare) (sym (ap start_of same)) k.kept_room;
  }

  -- the tables keep what they have to
  pub enlivened_collects : Collects old (Some before) → Collects new (Some after)
  enlivened_collects k = record {
    cards = cards_unshaded old new same k.cards;
    old = λ none a i. ap (λ (t : Tables). is_old_at t.blocks.blocks a) same ∙ k.old fresh a (sym (ap (λ (t : Tables). among t.cards.list a) same) ∙ i);
    open_cycle = λ c e. subst (λ (x : OpenCycle). KeepsPhase new x x.phase) (some_same after c e) (subst (λ p. KeepsPhase new after p) (sym (ap (λ (o : OpenCycle). o.phase) is)) (marks_of (subst (KeepsPhase old before) marking (k.open_cycle before refl))));
    lent = λ c i room e at.
        let given = k.lent before i room refl (sym (ap (λ (x : OpenCycle). slice_get x.lent.items i) (sym (some_same after c e) ∙ is)) ∙ at) in
        (given.0, subst (λ l. length l ≤ room.spare) (sym (ap start_of same)) given.1);
  }
    where
      some_same : (x y : OpenCycle) → Some x ≡ Some y → x ≡ y
      some_same x y e = cc

  -- the shade of a block of the start
  new_shade : (b : BlockId) → IsTrue (among (start_of old) b) → shade_in (collecting new after) b ≡ enlivened (id ∷ []) (collecting old before) b
  new_shade b i = marking_shade new after still b (ap (λ (t : Tables). among (start_of t) b) same ∙ i) ∙ by (same_or_not b id) ∙ sym (ap (λ s. cond (among (id ∷ []) b && is_white s) shade.Grey s) (marking_shade old before fresh b i))
    where
      of_shade : (s : Shade) → shades_of old id ≡ s → Has (start_of old) id → shades_of new id ≡ cond (is_white s) shade.Grey s
      of_shade shade.White e h = en.greyed h e
      of_shade shade.Grey e h = en.dark (λ w. let clash : shade.Grey ≡ shade.White = sym e ∙ w in cc (clash)) ∙ e
      of_shade shade.Black e h = en.dark (λ w. let clash : shade.Black ≡ shade.White = sym e ∙ w in cc (clash)) ∙ e

      listed : same_id id id ≡ true → (s : Shade) → cond ((same_id id id || false) && is_white s) shade.Grey s ≡ cond (is_white s) shade.Grey s
      listed e s = ap (λ t. cond ((t || false) && is_white s) shade.Grey s) e

      by : (b ≡ id) ⊎ ((b ≢ id) × (same_id b id ≡ false)) → shades_of new b ≡ cond (among (id ∷ []) b && is_white (shades_of old b)) shade.Grey (shades_of old b)
      by (inl e) =
          subst (λ x. shades_of new x ≡ cond (among (id ∷ []) x && is_white (shades_of old x)) shade.Grey (shades_of old x)) (sym e)
          (of_shade (shades_of old id) refl (subst (Has (start_of old)) e (among_has (start_of old) b i)) ∙ sym (listed (same_self id) (shades_of old id)))
      by (inr n) = en.others b n.0 ∙ sym (ap (λ t. cond ((t || false) && is_white (shades_of old b)) shade.Grey (shades_of old b)) n.1)

  -- and nothing else is new
  pub enlivened_livens : Livens (collector_of old (Some before)) (collector_of new (Some after)) (of_option (Some id)) []
  enlivened_livens = record {
    cycle = ap Some cycle;
    shades = λ f g ef eg none b i. subst (λ (x : Collecting). shade_in x b ≡ enlivened (id ∷ []) f b) (some_same (collecting new after) g eg)
        (subst (λ (x : Collecting). shade_in (collecting new after) b ≡ enlivened (id ∷ []) x b) (some_same (collecting old before) f ef)
        (new_shade b (subst (λ (x : Collecting). IsTrue (among x.start b)) (sym (some_same (collecting old before) f ef)) i)));
    cards = λ b i. ap (λ (t : Tables). among t.cards.list b) same ∙ i;
    fewer = λ b i. inl (sym (ap (λ (t : Tables). among t.cards.list b) same) ∙ i);
  }
    where
      some_same : (x y : Collecting) → Some x ≡ Some y → x ≡ y
      some_same x y e = cc

      cycle : cycles.unshaded (collecting new after) ≡ cycles.unshaded (collecting old before)
      cycle =
          ap (λ (o : OpenCycle). let g : Collecting = record { owner = o.owner; mode = o.mode; start = start_of new; shades = empty; condemned = condemned_at o.phase; left = o.left; rooms = length o.lent.items } in g) is
          ∙ ap (λ l. let g : Collecting = record { owner = before.owner; mode = before.mode; start = l; shades = empty; condemned = None; left = before.left; rooms = length before.lent.items } in g) (ap start_of same)
          ∙ ap (λ c. let g : Collecting = record { owner = before.owner; mode = before.mode; start = start_of old; shades = empty; condemned = c; left = before.left; rooms = length before.lent.items } in g) (sym fresh)
