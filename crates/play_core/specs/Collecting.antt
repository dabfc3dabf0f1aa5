-- A collection: what the calls of one thread's cycle make of a world
use Rattle.std.specs.Prelude.{◌≡◌, ◌==◌, ℕ, false, true, List, [], ◌∷◌, ◌++◌, All}
use Rattle.az_base.specs.declared.action.Mode.{Mode}
use Rattle.zone_model.specs.declared.act.Act.TheVariants as act
use Rattle.zone_model.specs.declared.call.Call.{Call}
use Rattle.zone_model.specs.declared.entry.Entry.{Entry}
use Rattle.zone_model.specs.declared.entry.Reply.{Reply}
use Rattle.zone_model.specs.History.{Ends, IsGroup, calls_of}
use Rattle.zone_model.specs.State.{State}
use Rattle.zone_model.specs.Step.{Step}
use Rattle.local_set.specs.Calls.{entry_of}
use Rattle.play_core.specs.Worlds.{WorldShown, AtEnd, threads_in, local_of, waits_of, is_running}

-- what waited of the thread was published, and then these entries of it; it goes on, and nothing of another thread has changed
pub record Publishes (old new : WorldShown) (t : ℕ) (es : List Entry) : Type 0 where
  pub journal : new.journal ≡ old.journal ++ (waits_of old t ++ es)
  pub out : waits_of new t ≡ []
  pub own : All (λ e. e.thread ≡ t) es
  pub options : new.options ≡ old.options
  pub others : (u : ℕ) → (t == u) ≡ false → local_of new u ≡ local_of old u
  pub running : is_running new t ≡ true
  pub threads : threads_in new.locals ≡ threads_in old.locals

-- the same of some entries with these calls
abbrev pub PublishesCalls : WorldShown → WorldShown → ℕ → List Call → Type 0
PublishesCalls old new t calls = (es : List Entry) × Publishes old new t es × (calls_of es ≡ calls)

-- the entries are the group of a collection
abbrev pub Collects : WorldShown → WorldShown → ℕ → Mode → Type 0
Collects old new t mode = (es : List Entry) × Publishes old new t es × IsGroup (act.Collect mode) es

-- one call was published, and it led there from where the thread's waiting entries led
pub record Closes (old new : WorldShown) (t : ℕ) (c : Call) (reply : Reply) : Type 0 where
  pub published : Publishes old new t (entry_of t c reply ∷ [])
  pub came : AtEnd new (λ a. (z : State) × Ends old.options old.journal z × Step z (entry_of t c reply) a)
