-- Paths by which blocks are kept, in a graph and in a state
use Rattle.std.proofs.Common.{◌≡◌, Bool, true, false, List, [], ◌∷◌, ◌++◌, refl, sym, ap, ◌∙◌, subst, filter, arith, length, ◌≤◌, ◌⊎◌, inl, inr, IsTrue, IsFalse, ◌↔◌}
use Rattle.std.proofs.lemmas.List.Sums.{length-filter, count_by-le-length}
use Rattle.az_base.specs.declared.block_id.BlockId.{BlockId}
use Rattle.az_base.specs.Ids.{among}
use Rattle.quantum_space.specs.Shapes.{Shape, Has, edges, anchors}
use Rattle.zone_model.specs.State.{State}
use Rattle.zone_model.specs.Reach.{Path, Edge}
use Rattle.zone_model.specs.Collection.{IsKept, Lists}
use Rattle.finalise_pass.specs.Kept.{EdgeIn, IsKeptIn, IsWithin, ShowsState, inside}
use Rattle.quantum_space.proofs.Lists.{has_among, has_filter, among_has}

pub true_or_not : (t : Bool) → (t ≡ true) ⊎ (t ≡ false)
true_or_not true = inl refl
true_or_not false = inr refl

path_on : (E : BlockId → BlockId → Type 0) (a : BlockId) (steps : List BlockId) (b c : BlockId) → Path E a steps b → E b c → Path E a (steps ++ c ∷ []) c
path_on E a [] b c p e = (subst (λ x. E x c) (sym p) e, refl)
path_on E a (x ∷ more) b c p e = (p.0, path_on E x more b c p.1 e)

-- a block that isn't condemned is where a path may begin
pub outside_kept : (s : Shape) (r : List BlockId) (a : BlockId) → IsFalse (among r a) → IsKeptIn s r a
outside_kept s r a out = (a, inr out, ([], refl))

pub anchor_kept : (s : Shape) (r : List BlockId) (a : BlockId) → Has (anchors s) a → IsKeptIn s r a
anchor_kept s r a anchor = (a, inl anchor, ([], refl))

-- what a kept block refers to is kept
pub edge_kept : (s : Shape) (r : List BlockId) (a b : BlockId) → IsKeptIn s r a → Has (edges s a) b → IsKeptIn s r b
edge_kept s r a b k e = (k.0, k.1, (k.2.0 ++ b ∷ [], path_on (EdgeIn s) k.0 k.2.0 a b k.2.1 e))

-- those that are all blocks of the graph
filter_whole : (p : BlockId → Bool) (xs : List BlockId) → ((b : BlockId) → Has xs b → p b ≡ true) → filter p xs ≡ xs
filter_whole p [] h = refl
filter_whole p (x ∷ xs) h = rw (h x (inl refl)) (ap (λ ys. x ∷ ys) (filter_whole p xs (λ b k. h b (inr k))))

pub all_inside : (s : Shape) (r : List BlockId) → IsWithin r s.blocks → inside s r ≡ r
all_inside s r within = filter_whole (among s.blocks) r (λ b h. has_among s.blocks b (within b (has_among r b h)))

module _ (z : State) (s : Shape) (r : List BlockId) (shows : ShowsState z s r) where
  in_state : (a : BlockId) (steps : List BlockId) (b : BlockId) → Path (EdgeIn s) a steps b → Path (Edge z) a steps b
  in_state a [] b p = p
  in_state a (c ∷ more) b p = (shows.inner a c p.0, in_state c more b p.1)

  to_state : (b : BlockId) → IsKeptIn s r b → IsKept z r b
  to_state b k = let p = in_state k.0 k.2.0 b k.2.1 in elim k.1 [
    | inr out ↦ (k.0, inr out, (k.2.0, p))
    | inl anchor ↦ elim (shows.anchor k.0 anchor) [
      | inl held ↦ (k.0, inl held, (k.2.0, p))
      | inr c ↦ (c.0, inr c.1, (k.0 ∷ k.2.0, (c.2, p)))
    ]
  ]

  one_edge : (a b : BlockId) → (IsTrue (among r a) → IsKeptIn s r a) → Edge z a b → IsTrue (among r b) → IsKeptIn s r b
  one_edge a b near e t = elim (shows.outer a b t e) [
    | inr anchor ↦ anchor_kept s r b anchor
    | inl edge ↦ elim (true_or_not (among r a)) [
      | inl i ↦ edge_kept s r a b (near i) edge
      | inr out ↦ edge_kept s r a b (outside_kept s r a out) edge
    ]
  ]

  along : (a : BlockId) (steps : List BlockId) (b : BlockId) → (IsTrue (among r a) → IsKeptIn s r a) → Path (Edge z) a steps b → IsTrue (among r b) → IsKeptIn s r b
  along a [] b near p t = subst (IsKeptIn s r) p (near (subst (λ x. IsTrue (among r x)) (sym p) t))
  along a (c ∷ more) b near p t = along c more b (one_edge a c near p.0) p.1 t

  from_state : (b : BlockId) → IsTrue (among r b) → IsKept z r b → IsKeptIn s r b
  from_state b t k = along k.0 k.2.0 b (λ i. elim k.1 [ inl held ↦ anchor_kept s r k.0 (shows.held k.0 i held) | inr out ↦ let e : true ≡ false = sym i ∙ out in cc ]) k.2.1 t

  pub kept_alike : (b : BlockId) → IsTrue (among r b) → IsKeptIn s r b ↔ IsKept z r b
  kept_alike b t = (to_state b, from_state b t)

  pub kept_lists_alike : (kept : List BlockId) → Lists kept (λ b. IsTrue (among r b) × IsKeptIn s r b) → Lists kept (λ b. IsTrue (among r b) × IsKept z r b)
  kept_lists_alike kept k = (
    k.0,
    λ b. (
      (λ t. (let x = (k.1 b).0 t in (x.0, to_state b x.1))),
      (λ y. (k.1 b).1 (y.0, from_state b y.0 y.1)),
    ),
  )

  pub gone_lists_alike : (gone : List BlockId) → Lists gone (λ b. IsTrue (among r b) × (¬ IsKeptIn s r b)) → Lists gone (λ b. IsTrue (among r b) × (¬ IsKept z r b))
  gone_lists_alike gone k = (
    k.0,
    λ b. (
      (λ t. (let x = (k.1 b).0 t in (x.0, λ h. x.1 (from_state b x.0 h)))),
      (λ y. (k.1 b).1 (y.0, λ h. y.1 (to_state b h))),
    ),
  )

-- what is inside is within
pub inside_within : (s : Shape) (r : List BlockId) → IsWithin (inside s r) s.blocks
inside_within s r b t = among_has s.blocks b (has_filter (among s.blocks) r b (among_has (inside s r) b t)).1

pub inside_length : (s : Shape) (r : List BlockId) → length (inside s r) ≤ length r
inside_length s r = let same = length-filter (among s.blocks) r in let few = count_by-le-length (among s.blocks) r in omega (arith, same, few)

-- a test that tells whether a block is in a list
pub tells_among : (xs : List BlockId) (b : BlockId) (t : Bool) → IsTrue t ↔ Has xs b → t ≡ among xs b
tells_among xs b true h = sym (has_among xs b (h.0 refl))
tells_among xs b false h = elim (true_or_not (among xs b)) [ inl k ↦ let e : false ≡ true = h.1 (among_has xs b k) in cc | inr k ↦ sym k ]
