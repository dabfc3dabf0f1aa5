-- A core and its state
use Rattle.std.proofs.Common.{◌≡◌, ℕ, false, List, [], Option, IsTrue, is_some, refl, sym, ap, subst, ◌∙◌}
use Rattle.std.specs.FinMap.{get-empty}
use Rattle.std.specs.Option.{option_and_then}
use Rattle.az_base.specs.declared.block_id.BlockId.{BlockId}
use Rattle.az_base.specs.declared.options.Options.{Options}
use Rattle.az_base.specs.Ids.{id_cmp}
use Rattle.zone_model.specs.declared.call.Call.TheVariants as call
use Rattle.zone_model.specs.declared.entry.Entry.{Entry}
use Rattle.zone_model.specs.declared.entry.Reply.TheVariants as reply
use Rattle.zone_model.specs.declared.entry.Stats.{Stats}
use Rattle.zone_model.specs.History.{Legal, Run}
use Rattle.zone_model.specs.State.{State, Block, opening, is_escaped}
use Rattle.zone_model.specs.Stats.{stats_of}
use Rattle.zone_model.proofs.Ranges.{opening_ranges}
use Rattle.zone_model.proofs.Soundness.{opening_sound}
use Rattle.zone_model.proofs.Steps.{plain_happens}
use Rattle.shared_heap.specs.Shared.{Shared, new_heap}
use Rattle.shared_heap.specs.Stands.{Stands}
use Rattle.shared_heap.specs.Steps as shared
use Rattle.zone_history.specs.Journals.{Recorded}
use Rattle.zone_escape.specs.Cores.{CoreShown, IsCore, IsCoreOf, HasLists, steps_left}

-- the core of the opening state
pub new_core : (o : Options) (h : Shared) (j : Recorded) → h ≡ new_heap o → Stands h (opening o) → j.entries ≡ [] → j.owed ≡ 0 → IsCoreOf (record { heap = h; journal = j }) (opening o)
new_core o h j new stands none owed = record {
  ends = subst (λ (es : List Entry). Run (opening h.options) es (opening o)) (sym none) (ap opening (sym (ap (λ (s : Shared). s.options) new)));
  heap = record { stands = stands; holds = λ t q out. absurd (nothing q out); sound = opening_sound o };
  range = opening_ranges o;
  room = ap (λ (s : Shared). s.room) new;
  owed = owed ∙ sym (ap steps_left new);
  lists = subst HasLists (sym new) tt;
}
  where
    nothing : (q : BlockId) → IsTrue (is_escaped (opening o) q) → ⊥
    nothing q out = let no = ap (λ (b : Option Block). is_some (option_and_then (λ (b : Block). b.since) b)) (sym (get-empty id_cmp q)) ∙ out in cc (no)

-- the journal of a core is a legal history
pub core_legal : (k : CoreShown) → IsCore k → Legal k.heap.options k.journal.entries
core_legal k c = (c.0, c.1.ends)

-- what the heap counts is what the state has, whoever has ended
pub counted : (h : Shared) (z : State) (s : Stats) → Stands h z → ((y : State) (t : ℕ) → shared.Runs h y t → shared.Stepped h y t call.Stats (reply.Stats s)) → s ≡ stats_of z
counted h z s stands steps =
    let y : State = record z { ended = λ t. false } in
    let stepped = steps y 0 (record { stands = record { options = stands.options; blocks = stands.blocks; roots = stands.roots; counts = stands.counts; assocs = stands.assocs; weak = stands.weak; cycle = stands.cycle }; running = refl }) in
    (plain_happens y (record { thread = 0; call = call.Stats; reply = reply.Stats s }) stepped.0 stepped.1 (λ id n. n) refl).1.0
