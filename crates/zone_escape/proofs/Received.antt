-- What a register held before is held once less, and the heap is told so
use Rattle.std.proofs.Common.{◌≡◌, ◌<◌, ◌≤◌, ◌+◌, ◌==◌, ◌&&◌, ℕ, Bool, true, false, cond, Option, Some, None, [], refl, sym, ap, subst, ◌∙◌, arith}
use Rattle.std.proofs.lemmas.Bool.Decides.{nat_tests}
use Rattle.az_base.specs.declared.block_id.BlockId.{BlockId}
use Rattle.az_base.specs.Ids.{same_id}
use Rattle.az_base.proofs.Ids.{same_is, same_self}
use Rattle.zone_model.specs.declared.entry.Reply.{Reply}
use Rattle.zone_model.specs.declared.entry.Reply.TheVariants as reply
use Rattle.zone_model.specs.Part.{Part, part_of, put_register}
use Rattle.zone_model.specs.State.{State, is_escaped}
use Rattle.zone_model.specs.Holds.{holds_of}
use Rattle.shared_heap.specs.Holding.{HoldsAgree, HoldsOnceMore, HoldsSet, replaced}
use Rattle.shared_heap.specs.Shared.{Shared, held}
use Rattle.shared_heap.specs.Stands.{Stands}
use Rattle.shared_heap.proofs.Agreeing.{said, one_pair, no_pair}
use Rattle.local_set.specs.LocalSets.{LocalSet, part_in, held_in}
use Rattle.escape_plan.specs.Together.{Together}
use Rattle.zone_escape.specs.Receiving.{received, Receives, CountsOnceMore}
use Rattle.zone_escape.proofs.Making.{belongs_now}

-- where no block is counted once more, all agrees
pub none_more : (h : Shared) (z : State) (t : ℕ) → HoldsOnceMore h z t None → HoldsAgree h z
none_more h z t more = no_pair h z (one_pair h z t None more)

-- and where the block isn't one that has escaped
pub unescaped_more : (h : Shared) (z : State) (t : ℕ) (id : BlockId) → is_escaped z id ≡ false → HoldsOnceMore h z t (Some id) → HoldsAgree h z
unescaped_more h z t id inside more u q out = more u q out ∙ go (same_id id q) refl
  where
    nothing : (b : Bool) (n : ℕ) → n + cond (b && false) 1 0 ≡ n
    nothing true n = omega arith
    nothing false n = omega arith

    go : (s : Bool) → same_id id q ≡ s → holds_of (part_of z u) q + cond ((t == u) && same_id id q) 1 0 ≡ holds_of (part_of z u) q
    go true e = let no : false ≡ true = sym inside ∙ ap (is_escaped z) (same_is id q e) ∙ out in cc (no)
    go false e = ap (λ b. holds_of (part_of z u) q + cond ((t == u) && b) 1 0) e ∙ nothing (t == u) (holds_of (part_of z u) q)

-- the thread holds by the table what is counted once more
pub is_counted : (l : LocalSet) (h : Shared) (id : BlockId) (z : State) (t : ℕ) → t ≡ l.thread → CountsOnceMore l h (Some id) z → is_escaped z id ≡ true → 0 < held h t id
is_counted l h id z t thread c out =
    let here : (l.thread == l.thread) ≡ true = grind (arith, nat_tests) in
    let one : held h l.thread id ≡ holds_of (part_of z l.thread) id + 1 = c.holds l.thread id out ∙ ap (λ b. holds_of (part_of z l.thread) id + cond (b && same_id id id) 1 0) here ∙ ap (λ b. holds_of (part_of z l.thread) id + cond b 1 0) (same_self id) in
    subst (λ u. 0 < held h u id) (sym thread) (omega (arith, one))

-- and once its number was said, all agrees
pub told_agrees : (l : LocalSet) (h k : Shared) (id : BlockId) (z : State) (t n : ℕ) → t ≡ l.thread → n ≡ holds_of (part_in l) id → HoldsSet h k t id n → CountsOnceMore l h (Some id) z → HoldsAgree k z
told_agrees l h k id z t n thread is sets c =
    let number : n ≡ holds_of (part_of z l.thread) id = is ∙ ap (λ p. holds_of p id) c.part in
    no_pair k z (said h k z l.thread id [] (one_pair h z l.thread (Some id) c.holds) (subst (λ x. HoldsSet h k l.thread id x) number (subst (λ u. HoldsSet h k u id n) thread sets)))

-- a reply that gives no block goes to no register
pub gives_none : (p : Part) (to : ℕ) (r : Reply) (before : Option BlockId) → ((v : Option BlockId) → r ≡ reply.Block v → ⊥) → (received p to r ≡ p) × (replaced r before ≡ None)
gives_none p to (reply.Block v) before none = absurd (none v refl)
gives_none p to reply.Done before none = (refl, refl)
gives_none p to (reply.Number n) before none = (refl, refl)
gives_none p to reply.Busy before none = (refl, refl)
gives_none p to reply.Begun before none = (refl, refl)
gives_none p to (reply.Condemned l) before none = (refl, refl)
gives_none p to (reply.Finalised b) before none = (refl, refl)
gives_none p to (reply.Reclaimed l) before none = (refl, refl)
gives_none p to (reply.Settled l k) before none = (refl, refl)
gives_none p to (reply.Stats s) before none = (refl, refl)
gives_none p to (reply.Misuse m) before none = (refl, refl)

-- so nothing is to be told
pub received_none : (l : LocalSet) (h : Shared) (to : ℕ) (r : Reply) (z : State) → to ≤ 15 → l.waiting ≡ [] → ((v : Option BlockId) → r ≡ reply.Block v → ⊥) → Receives l h to r z → Together l h z
received_none l h to r z few out none is =
    let same = gives_none (part_in l) to r (held_in l.registers to) none in
    record {
      local = belongs_now l z out (sym (is.part ∙ same.0)) is.published;
      heap = record { stands = is.stands; holds = none_more h z l.thread (subst (HoldsOnceMore h z l.thread) same.1 (is.holds few)); sound = is.sound };
      room = is.room;
    }

module _ (l m n : LocalSet) (to : ℕ) (few : to ≤ 15) (v : Option BlockId) (given : part_in m ≡ put_register (part_in l) to v) (rest : m ≡ record l { registers = m.registers }) (marked : n ≡ record m { published = m.registers; changed = [] }) where
  same_thread : n.thread ≡ l.thread
  same_thread = ap (λ (s : LocalSet). s.thread) marked ∙ ap (λ (s : LocalSet). s.thread) rest

  same_part : (h : Shared) (r : Reply) (z : State) → r ≡ reply.Block v → Receives l h to r z → part_in n ≡ part_of z n.thread
  same_part h r z is c = ap part_in marked ∙ given ∙ sym (ap (received (part_in l) to) is) ∙ sym c.part ∙ ap (part_of z) (sym same_thread)

  -- the register has the block, and the heap counts what it held before once more
  pub replaced_once : (h : Shared) (r : Reply) (before : Option BlockId) (z : State) → r ≡ reply.Block v → before ≡ held_in l.registers to → Receives l h to r z → CountsOnceMore n h before z
  replaced_once h r before z is was c = record {
    part = same_part h r z is c;
    stands = c.stands;
    holds = subst (λ t. HoldsOnceMore h z t before) (sym same_thread) (subst (HoldsOnceMore h z l.thread) (ap (λ x. replaced x (held_in l.registers to)) is ∙ sym was) (c.holds few));
  }

  -- and both belong together when the heap was told
  pub received_block : (h k : Shared) (r : Reply) (before : Option BlockId) (z : State) → l.waiting ≡ [] → r ≡ reply.Block v → before ≡ held_in l.registers to → ((y : State) → CountsOnceMore n h before y → HoldsAgree k y)
      → ((y : State) → Stands h y → Stands k y) → k ≡ record h { holds = k.holds } → Receives l h to r z → Together n k z
  received_block h k r before z out is was agree stands told c = record {
    local = belongs_now n z (ap (λ (s : LocalSet). s.waiting) marked ∙ ap (λ (s : LocalSet). s.waiting) rest ∙ out) (same_part h r z is c) (λ q. ap (λ (s : LocalSet). held_in s.published q) marked ∙ sym (ap (λ (s : LocalSet). held_in s.registers q) marked));
    heap = record { stands = stands z c.stands; holds = agree z (replaced_once h r before z is was c); sound = c.sound };
    room = ap (λ (s : Shared). s.room) told ∙ c.room;
  }
