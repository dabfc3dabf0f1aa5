-- A thread's part after a step is told by the part, the call and the reply
use Rattle.std.proofs.Common.{◌≡◌, ◌+◌, ℕ, ◌==◌, Bool, true, false, cond, not, nat_lt, ◌&&◌, ◌||◌, List, [], ◌∷◌, Option, Some, None, IsTrue, IsFalse, refl, sym, ap, ◌∙◌, is_some, is_none, eq-eqb}
use Rattle.std.specs.Option.{option_map}
use Rattle.std.specs.declared.cmp.Ordering.{Ordering}
use Rattle.std.specs.declared.cmp.Ordering.TheVariants.{Less, Equal, Greater}
use Rattle.std.specs.Ordering.{is_eq}
use Rattle.std.specs.FinMap.{FinMap, empty, get, insert, get-insert, get-empty, get-retain_keys, same_map}
use Rattle.az_base.specs.declared.action.Action.{Action}
use Rattle.az_base.specs.declared.block_id.BlockId.{BlockId}
use Rattle.az_base.specs.Ids.{id_cmp, id_of, same_id, among, ids_total, exact_ids}
use Rattle.block_layouts.specs.declared.layout.Layout.{Layout}
use Rattle.block_layouts.specs.Layouts.{first_words, quanta, len_of}
use Rattle.zone_model.specs.State.{State, Block, with_edit, without_blocks, is_own, is_nil}
use Rattle.zone_model.specs.Escape.{with_escaped}
use Rattle.zone_model.specs.Quanta.{is_born_escaped}
use Rattle.zone_model.specs.Effect.{new_block, with_new}
use Rattle.zone_model.specs.Part.{part_of, passes_local, leave_part, own_block, put_new}
use Rattle.zone_model.proofs.Blocks.{is_inside, is_out, not_both, edit_get, left_get, escape_at, got_escaped}
use Rattle.zone_model.proofs.Sums.{own_in_part}

-- a block as its part has it, if it is of the thread and hasn't escaped
abbrev pub shown_in : Bool → Option Block → Option Block
shown_in mine o = cond (mine && is_inside o) o None

-- what a part has at an id
pub part_get : (z : State) (t : ℕ) (q : BlockId) → get (part_of z t).blocks q ≡ shown_in (q.thread == t) (get z.blocks q)
part_get z t q = get-retain_keys z.blocks (is_own z t) q (λ k e. ap (is_own z t) (sym (exact_ids q k e)))

-- two maps that have the same of a thread's blocks give the same part
pub same_blocks : (y z : State) (t : ℕ) → ((q : BlockId) → shown_in (q.thread == t) (get y.blocks q) ≡ shown_in (q.thread == t) (get z.blocks q)) → (part_of y t).blocks ≡ (part_of z t).blocks
same_blocks y z t h = same_map ids_total exact_ids _ _ (λ q. part_get y t q ∙ h q ∙ sym (part_get z t q))

-- a part's blocks are those of a map
pub are_blocks : (y : State) (t : ℕ) (m : FinMap id_cmp Block) → ((q : BlockId) → shown_in (q.thread == t) (get y.blocks q) ≡ get m q) → (part_of y t).blocks ≡ m
are_blocks y t m h = same_map ids_total exact_ids _ _ (λ q. part_get y t q ∙ h q)

none_shown : (mine : Bool) (o : Option Block) → IsTrue (is_out o) → shown_in mine o ≡ None
none_shown false o h = refl
none_shown true o h = by_test (is_inside o) refl
  where
    by_test : (t : Bool) → is_inside o ≡ t → cond t o None ≡ None
    by_test true e = absurd (not_both o h e)
    by_test false e = refl

-- an escape
escaped_at : (z : State) (mine need : Bool) (o : Option Block) → shown_in mine (option_map (escape_at z need) o) ≡ cond need None (shown_in mine o)
escaped_at z false true o = refl
escaped_at z false false o = refl
escaped_at z true true None = refl
escaped_at z true true (Some b) = refl
escaped_at z true false None = refl
escaped_at z true false (Some b) = refl

module _ (z : State) (need : BlockId → Bool) (t : ℕ) where
  -- the blocks leave the part of their thread
  pub escaped_part : part_of (with_escaped z need) t ≡ leave_part (part_of z t) need
  escaped_part = ap (λ m. record (part_of z t) { blocks = m }) (are_blocks (with_escaped z need) t _ (λ q.
      ap (shown_in (q.thread == t)) (got_escaped z need q) ∙ escaped_at z (q.thread == t) (need q) (get z.blocks q)
      ∙ ap (cond (need q) None) (sym (part_get z t q)) ∙ sym (left_get (part_of z t).blocks need q)))

  -- where they aren't of the thread, its part stays
  pub escaped_others : ((q : BlockId) → need q ≡ true → (q.thread == t) ≡ false) → part_of (with_escaped z need) t ≡ part_of z t
  escaped_others other = ap (λ m. record (part_of z t) { blocks = m }) (same_blocks (with_escaped z need) z t (λ q.
      ap (shown_in (q.thread == t)) (got_escaped z need q) ∙ escaped_at z (q.thread == t) (need q) (get z.blocks q) ∙ by_need q (need q) refl))
    where
      by_need : (q : BlockId) (n : Bool) → need q ≡ n → cond n None (shown_in (q.thread == t) (get z.blocks q)) ≡ shown_in (q.thread == t) (get z.blocks q)
      by_need q true e = sym (ap (λ m. shown_in m (get z.blocks q)) (other q e))
      by_need q false e = refl

-- an edit that keeps standings
edit_shown : (f : Block → Block) → ((b : Block) → (f b).since ≡ b.since) → (mine : Bool) (o : Option Block) → shown_in mine (option_map f o) ≡ option_map f (shown_in mine o)
edit_shown f same false o = refl
edit_shown f same true None = refl
edit_shown f same true (Some b) = ap (λ s. cond (is_none s) (Some (f b)) None) (same b) ∙ out (is_none b.since)
  where
    out : (t : Bool) → cond t (Some (f b)) None ≡ option_map f (cond t (Some b) None)
    out true = refl
    out false = refl

cond_out : {X Y : Type 0} (f : X → Y) (t : Bool) (a b : X) → f (cond t a b) ≡ cond t (f a) (f b)
cond_out f true a b = refl
cond_out f false a b = refl

pub edited_part : (z : State) (t : ℕ) (id : BlockId) (f : Block → Block) → ((b : Block) → (f b).since ≡ b.since) → (part_of (record z { blocks = with_edit z.blocks id f }) t).blocks ≡ with_edit (part_of z t).blocks id f
edited_part z t id f same = are_blocks (record z { blocks = with_edit z.blocks id f }) t _ (λ q.
    ap (shown_in (q.thread == t)) (edit_get z.blocks id f q)
    ∙ cond_out (shown_in (q.thread == t)) (same_id q id) (option_map f (get z.blocks q)) (get z.blocks q)
    ∙ ap (λ o. cond (same_id q id) o (shown_in (q.thread == t) (get z.blocks q))) (edit_shown f same (q.thread == t) (get z.blocks q))
    ∙ ap (λ o. cond (same_id q id) (option_map f o) o) (sym (part_get z t q))
    ∙ sym (edit_get (part_of z t).blocks id f q))

-- and one of a block that isn't the thread's own
pub edited_others : (z : State) (t : ℕ) (id : BlockId) (f : Block → Block) → ((b : Block) → (f b).since ≡ b.since) → IsFalse (is_own z t id) → (part_of (record z { blocks = with_edit z.blocks id f }) t).blocks ≡ (part_of z t).blocks
edited_others z t id f same other = same_blocks (record z { blocks = with_edit z.blocks id f }) z t (λ q.
    ap (shown_in (q.thread == t)) (edit_get z.blocks id f q)
    ∙ cond_out (shown_in (q.thread == t)) (same_id q id) (option_map f (get z.blocks q)) (get z.blocks q)
    ∙ at q (id_cmp q id) refl)
  where
    at : (q : BlockId) (r : Ordering) → id_cmp q id ≡ r → cond (is_eq r) (shown_in (q.thread == t) (option_map f (get z.blocks q))) (shown_in (q.thread == t) (get z.blocks q)) ≡ shown_in (q.thread == t) (get z.blocks q)
    at q Less e = refl
    at q Equal e =
        let here : is_own z t q ≡ false = ap (is_own z t) (exact_ids q id e) ∙ other in
        edit_shown f same (q.thread == t) (get z.blocks q) ∙ ap (λ b. option_map f (cond b (get z.blocks q) None)) here ∙ sym (ap (λ b. cond b (get z.blocks q) None) here)
    at q Greater e = refl

-- some blocks are gone
left_shown : (mine gone : Bool) (o : Option Block) → shown_in mine (cond gone None o) ≡ cond gone None (shown_in mine o)
left_shown false true o = refl
left_shown true true o = refl
left_shown false false o = refl
left_shown true false o = refl

module _ (z : State) (gone : List BlockId) (t : ℕ) where
  pub left_part : (part_of (without_blocks z gone) t).blocks ≡ (leave_part (part_of z t) (among gone)).blocks
  left_part = are_blocks (without_blocks z gone) t _ (λ q.
      ap (shown_in (q.thread == t)) (left_get z.blocks (among gone) q) ∙ left_shown (q.thread == t) (among gone q) (get z.blocks q)
      ∙ ap (cond (among gone q) None) (sym (part_get z t q)) ∙ sym (left_get (part_of z t).blocks (among gone) q))

  pub left_others : ((q : BlockId) → among gone q ≡ true → IsFalse (is_own z t q)) → (part_of (without_blocks z gone) t).blocks ≡ (part_of z t).blocks
  left_others other = same_blocks (without_blocks z gone) z t (λ q.
      ap (shown_in (q.thread == t)) (left_get z.blocks (among gone) q) ∙ left_shown (q.thread == t) (among gone q) (get z.blocks q) ∙ by_gone q (among gone q) refl)
    where
      by_gone : (q : BlockId) (g : Bool) → among gone q ≡ g → cond g None (shown_in (q.thread == t) (get z.blocks q)) ≡ shown_in (q.thread == t) (get z.blocks q)
      by_gone q true e = sym (ap (λ b. cond b (get z.blocks q) None) (other q e))
      by_gone q false e = refl

  -- all of them
  pub left_none : ((q : BlockId) → IsTrue (is_own z t q) → among gone q ≡ true) → (part_of (without_blocks z gone) t).blocks ≡ empty
  left_none all = are_blocks (without_blocks z gone) t empty (λ q.
      ap (shown_in (q.thread == t)) (left_get z.blocks (among gone) q) ∙ left_shown (q.thread == t) (among gone q) (get z.blocks q)
      ∙ by_own q (is_own z t q) refl ∙ sym (get-empty id_cmp q))
    where
      out : (g : Bool) → cond g None (let o : Option Block = None in o) ≡ None
      out true = refl
      out false = refl

      by_own : (q : BlockId) (b : Bool) → is_own z t q ≡ b → cond (among gone q) None (cond b (get z.blocks q) None) ≡ None
      by_own q true e = ap (λ g. cond g None (get z.blocks q)) (all q e)
      by_own q false e = out (among gone q)

-- a new block
module _ (z : State) (t to : ℕ) (l : Layout) (actions : List Action) where
  abbrev id : BlockId
  id = id_of t (z.serials t)

  abbrev new : Block
  new = new_block z t l actions

  got : (q : BlockId) → get (with_new z t to l actions).blocks q ≡ cond (same_id q id) (Some new) (get z.blocks q)
  got q = get-insert ids_total z.blocks id new q

  -- no other thread's part has it
  pub new_others : (u : ℕ) → (t == u) ≡ false → (part_of (with_new z t to l actions) u).blocks ≡ (part_of z u).blocks
  new_others u other = same_blocks (with_new z t to l actions) z u (λ q.
      ap (shown_in (q.thread == u)) (got q) ∙ cond_out (shown_in (q.thread == u)) (same_id q id) (Some new) (get z.blocks q) ∙ at q (id_cmp q id) refl)
    where
      at : (q : BlockId) (r : Ordering) → id_cmp q id ≡ r → cond (is_eq r) (shown_in (q.thread == u) (Some new)) (shown_in (q.thread == u) (get z.blocks q)) ≡ shown_in (q.thread == u) (get z.blocks q)
      at q Less e = refl
      at q Equal e =
          let no : (q.thread == u) ≡ false = ap (λ (x : BlockId). x.thread == u) (exact_ids q id e) ∙ other in
          ap (λ b. shown_in b (Some new)) no ∙ sym (ap (λ b. shown_in b (get z.blocks q)) no)
      at q Greater e = refl

  -- whether it passes the option local is told by the part
  pub born_in_part : is_born_escaped z t l actions ≡ (not (is_nil actions) || passes_local (part_of z t) l)
  born_in_part = ap (λ n. not (is_nil actions) || nat_lt z.options.local_quanta (n + quanta (len_of l))) (sym (own_in_part z t))

  nil_actions : (acts : List Action) (b : Bool) → (not (is_nil acts) || b) ≡ false → acts ≡ []
  nil_actions [] b h = refl
  nil_actions (a ∷ acts) b h = cc (h)

  -- its own thread's part has it where it isn't born escaped
  pub new_part : get z.blocks (id_of t (z.serials t)) ≡ None → (part_of (with_new z t to l actions) t).blocks ≡ (put_new (part_of z t) l actions (Some id)).blocks
  new_part none = by_born (not (is_nil actions) || passes_local (part_of z t) l) refl
    where
      block_is : (b : Bool) → is_born_escaped z t l actions ≡ b → new ≡ record { layout = l; words = first_words l; actions = actions; finalised = false; since = cond b (Some z.reclaims) None }
      block_is b e = ap (λ b. let r : Block = record { layout = l; words = first_words l; actions = actions; finalised = false; since = cond b (Some z.reclaims) None } in r) e

      born : (q : BlockId) → is_born_escaped z t l actions ≡ true → (r : Ordering) → id_cmp q id ≡ r → cond (is_eq r) (shown_in (q.thread == t) (Some new)) (shown_in (q.thread == t) (get z.blocks q)) ≡ shown_in (q.thread == t) (get z.blocks q)
      born q b Less e = refl
      born q b Equal e = none_shown (q.thread == t) (Some new) (ap (λ (k : Block). is_some k.since) (block_is true b)) ∙ sym (ap (shown_in (q.thread == t)) (ap (get z.blocks) (exact_ids q id e) ∙ none) ∙ nothing (q.thread == t))
        where
          nothing : (m : Bool) → shown_in m None ≡ None
          nothing true = refl
          nothing false = refl
      born q b Greater e = refl

      mine : (q : BlockId) → is_born_escaped z t l actions ≡ false → (r : Ordering) → id_cmp q id ≡ r → cond (is_eq r) (shown_in (q.thread == t) (Some new)) (shown_in (q.thread == t) (get z.blocks q)) ≡ cond (is_eq r) (Some (own_block l)) (shown_in (q.thread == t) (get z.blocks q))
      mine q b Less e = refl
      mine q b Equal e =
          let block : new ≡ own_block l = block_is false b ∙ ap (λ acts. let r : Block = record { layout = l; words = first_words l; actions = acts; finalised = false; since = None } in r) (nil_actions actions (passes_local (part_of z t) l) (sym born_in_part ∙ b)) in
          ap (shown_in (q.thread == t)) (ap Some block) ∙ ap (λ (x : BlockId). shown_in (x.thread == t) (Some (own_block l))) (exact_ids q id e) ∙ ap (λ m. shown_in m (Some (own_block l))) (eq-eqb t t refl)
      mine q b Greater e = refl

      by_born : (b : Bool) → (not (is_nil actions) || passes_local (part_of z t) l) ≡ b → (part_of (with_new z t to l actions) t).blocks ≡ cond b (part_of z t).blocks (insert (part_of z t).blocks id (own_block l))
      by_born true e = same_blocks (with_new z t to l actions) z t (λ q.
          ap (shown_in (q.thread == t)) (got q) ∙ cond_out (shown_in (q.thread == t)) (same_id q id) (Some new) (get z.blocks q) ∙ born q (born_in_part ∙ e) (id_cmp q id) refl)
      by_born false e = are_blocks (with_new z t to l actions) t _ (λ q.
          ap (shown_in (q.thread == t)) (got q) ∙ cond_out (shown_in (q.thread == t)) (same_id q id) (Some new) (get z.blocks q) ∙ mine q (born_in_part ∙ e) (id_cmp q id) refl
          ∙ ap (cond (same_id q id) (Some (own_block l))) (sym (part_get z t q)) ∙ sym (get-insert ids_total (part_of z t).blocks id (own_block l) q))
