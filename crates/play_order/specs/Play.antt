-- Which history `play` makes of what threads are asked for
use Rattle.std.specs.Prelude.{◌≡◌, ◌≤◌, ◌==◌, ℕ, Bool, false, List, [], ◌∷◌, ◌++◌, map, filter, flat_map, All}
use Rattle.std.specs.List.{range_with_len}
use Rattle.az_base.specs.declared.numbers.TheConstants.{MOST_THREADS}
use Rattle.az_base.specs.declared.options.Options.{Options}
use Rattle.zone_model.specs.declared.act.Act.{Act}
use Rattle.zone_model.specs.declared.act.Act.TheVariants as act
use Rattle.zone_model.specs.declared.call.Call.TheVariants as call
use Rattle.zone_model.specs.declared.entry.Entry.{Entry}
use Rattle.zone_model.specs.declared.entry.Stats.{Stats}
use Rattle.zone_model.specs.State.{State}
use Rattle.zone_model.specs.Stats.{stats_of}
use Rattle.zone_model.specs.Part.{Part, Solo, is_local}
use Rattle.zone_model.specs.History.{Ends, IsGroup}
use Rattle.zone_model.specs.Replies.{NoCondemn}
use Rattle.zone_history.specs.Histories.{Request, is_asked}
use Rattle.play_order.specs.Places.{Played, in_order}

-- the threads that are asked for something, ascending
abbrev pub threads_of : List Request → List ℕ
threads_of requests = filter (is_asked requests) (range_with_len 1 MOST_THREADS)

-- the ends: each of these threads leaves
abbrev pub leaves : List ℕ → List Request
leaves threads = map (λ t. (t, act.Call call.Leave)) threads

-- the requests, and then the ends
abbrev pub with_leaves : List Request → List Request
with_leaves requests = requests ++ leaves (threads_of requests)

-- what is asked for is a local call
abbrev pub is_local_act : Part → Act → Bool
is_local_act p (act.Call c) = is_local p c
is_local_act p (act.Collect mode) = false

-- the entries that the thread's lines gave
abbrev pub own_entries : ℕ → List Played → List Entry
own_entries t lines = flat_map (λ l. l.entries) (filter (λ l. l.thread == t) lines)

-- a line was played after others: its entries are its thread's, and the group of what it asks for; whether it is local tells the part that its thread's earlier lines gave
pub record IsTurn (o : Options) (earlier : List Played) (r : Request) (line : Played) : Type 0 where
  pub thread : line.thread ≡ r.0
  pub group : IsGroup r.1 line.entries
  pub own : All (λ e. e.thread ≡ line.thread) line.entries
  pub part : Part
  pub given : Solo o (own_entries line.thread earlier) part
  pub local : line.local ≡ is_local_act part r.1

-- what was asked for was played, one line after another
abbrev pub AreTurns : Options → List Played → List Request → List Played → Type 0
AreTurns o earlier [] [] = Unit {0}
AreTurns o earlier (r ∷ requests) (line ∷ later) = IsTurn o earlier r line × AreTurns o (earlier ++ line ∷ []) requests later
AreTurns o earlier [] (line ∷ later) = ⊥
AreTurns o earlier (r ∷ requests) [] = ⊥

-- the history that `play` makes of what threads are asked for: legal, with the entries of all lines, and then of the ends, in the order of their places; these are the statistics of its end
pub record IsPlayOf (o : Options) (requests : List Request) (history : List Entry) (stats : Stats) : Type 0 where
  pub last : State
  pub legal : Ends o history last
  pub counted : stats ≡ stats_of last
  pub lines : List Played
  pub turns : AreTurns o [] (with_leaves requests) lines
  pub ordered : history ≡ in_order o.pending lines

-- the thread is 1 to 16, and what it is asked for is no Condemn by itself, whose reply alone the state doesn't determine
abbrev pub IsProper : Request → Type 0
IsProper r = (1 ≤ r.0) × (r.0 ≤ MOST_THREADS) × NoCondemn r.1
