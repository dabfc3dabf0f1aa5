-- What a finish leaves may be condemned
use Rattle.std.proofs.Common.{◌≡◌, ◌&&◌, Bool, true, false, List, refl, sym, ap, ◌∙◌, inl, IsTrue, filter}
use Rattle.std.specs.List.Sorted.{IsStrictlySortedBy}
use Rattle.az_base.specs.declared.block_id.BlockId.{BlockId}
use Rattle.az_base.specs.declared.action.Mode.{Mode}
use Rattle.az_base.specs.declared.action.Mode.TheVariants as mode
use Rattle.az_base.specs.Ids.{id_cmp, among}
use Rattle.quantum_space.specs.declared.shade.Shade.{Shade}
use Rattle.quantum_space.specs.declared.shade.Shade.TheVariants as shade
use Rattle.quantum_space.specs.Shapes.{Shape, Shades, Has}
use Rattle.quantum_space.proofs.Lists.{has_among, among_has, has_filter, filter_has}
use Rattle.zone_model.specs.State.{State, Cycle}
use Rattle.zone_model.specs.Reach.{Edge, Anchors, IsHeld}
use Rattle.zone_model.specs.Collection.{MayCondemn, WasAnchored}
use Rattle.gen_marker.specs.Marking.{in_scope, is_left, is_white}
use Rattle.gen_marker.specs.Closure.{MarkedIn, OfDark, ShowsCycle}
use Rattle.gen_marker.proofs.Closure.{dark_edge, never_dark}

white_test : (f : Shade) → is_white f ≡ true → f ≡ shade.White
white_test shade.White e = refl
white_test shade.Grey e = cc
white_test shade.Black e = cc

both : (x y : Bool) → (x && y) ≡ true → (x ≡ true) × (y ≡ true)
both true y e = (refl, e)
both false y e = cc

-- what is held anchors in either mode
held_first : (z : State) (m : Mode) (a : BlockId) → IsHeld z a → Anchors m z a
held_first z mode.Full a h = inl h
held_first z mode.Young a h = inl h

module _ (z : State) (c : Cycle) (s : Shape) (f : Shades) (shows : ShowsCycle z c s) (marked : MarkedIn z c.mode s f) (reached : OfDark s f (WasAnchored c)) (r : List BlockId) (sorted : IsStrictlySortedBy id_cmp r) (same : (b : BlockId) → among r b ≡ among (filter (is_left c.mode s f) s.blocks) b) where
  -- a block of the list is a white block of the graph, in scope
  record Left (b : BlockId) : Type 0 where
    pub block : Has s.blocks b
    pub white : f b ≡ shade.White
    pub scope : IsTrue (in_scope c.mode s b)

  left_of : (b : BlockId) → IsTrue (among r b) → Left b
  left_of b i =
      let t = sym (same b) ∙ i in
      let h = has_filter (is_left c.mode s f) s.blocks b (among_has (filter (is_left c.mode s f) s.blocks) b t) in
      let p = both (is_white (f b)) (in_scope c.mode s b) h.1 in
      record { block = h.0; white = white_test (f b) p.0; scope = p.1 }

  of_left : (b : BlockId) → Has s.blocks b → f b ≡ shade.White → IsTrue (in_scope c.mode s b) → IsTrue (among r b)
  of_left b h w t = same b ∙ has_among (filter (is_left c.mode s f) s.blocks) b (filter_has (is_left c.mode s f) s.blocks b h (ap (λ x. is_white x && in_scope c.mode s b) w ∙ t))

  pub may_condemn : MayCondemn z c r
  may_condemn = record {
    ascending = sorted;
    start = λ b t. (shows.start b).1 (left_of b t).block;
    scope = λ b t. (let l = left_of b t in shows.scope b l.block ∙ l.scope);
    not_held = λ b t held. (let l = left_of b t in marked.first b (held_first z c.mode b held) l.block l.scope l.white);
    closed = λ a b out t edge. (let l = left_of b t in
        dark_edge c.mode s f (Edge z) (Anchors c.mode z) marked a b (λ h scope white. (let i = of_left a h white scope in let e : true ≡ false = sym i ∙ out in cc)) edge l.block l.scope l.white);
    complete = λ b start scope never. (let h = (shows.start b).0 start in
        of_left b h (never_dark s f (WasAnchored c) reached b h (λ was. never (start, was))) (sym (shows.scope b h) ∙ scope));
  }
