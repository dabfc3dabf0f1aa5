-- How a script is played
use Rattle.std.specs.Prelude.{◌≡◌, ◌==◌, ◌≤◌, ℕ, Bool, List, [], ◌∷◌, length, map, filter, take, slice_get, get_or, false, Some}
use Rattle.std.specs.List.{list_any}
use Rattle.az_base.specs.declared.numbers.TheConstants.{MOST_THREADS}
use Rattle.zone_history.specs.Histories.{Request}
use Rattle.heap_script.specs.declared.line.Line.{Line}
use Rattle.heap_script.specs.declared.script.Script.{Script}
use Rattle.play_order.specs.Places.{Played}
use Rattle.play_order.specs.Play.{leaves, threads_of}
use Rattle.play_order.specs.Playing.{Seen, IsTold, Turn}
use Rattle.play_core.specs.Worlds.{WorldShown, threads_in, seen, is_running, IsQuiet, Stops}

-- what lines ask their threads for, in their order
abbrev pub requests : List Line → List Request
requests lines = map (λ line. (line.thread, line.act)) lines

-- what a script asks its threads for, in the order of its lines
abbrev pub requests_of : Script → List Request
requests_of script = requests script.lines

-- at each number up to the most of a thread, whether a line is that thread's
pub record AreAsked (lines : List Line) (asked : List Bool) : Type 0 where
  pub count : length asked ≡ 17
  pub at : (t : ℕ) → t ≤ MOST_THREADS → get_or asked t false ≡ list_any (λ line. line.thread == t) lines

-- what is asked for was played, one turn after another, each of a thread whose part is told by its entries
abbrev pub Turns : Seen → List Request → Seen → Type 0
Turns w [] after = after ≡ w
Turns w (r ∷ rs) after = IsTold w r.0 × (line : Played) × (mid : Seen) × Turn w r line mid × Turns mid rs after

-- those of these threads that haven't left leave
abbrev pub ends_among : WorldShown → List ℕ → List Request
ends_among w ts = leaves (filter (is_running w) ts)

-- the ends: each thread that hasn't left leaves, in ascending order
abbrev pub ends_of : WorldShown → List Request
ends_of w = ends_among w (threads_in w.locals)

-- where memory was wanting at the end: the first of the threads have left, and what waits of the next one may have been published
abbrev pub EndStops : WorldShown → WorldShown → Type 0
EndStops old new = (n : ℕ) × (t : ℕ) × (slice_get (threads_in old.locals) n ≡ Some t)
    × (mid : Seen) × Turns (seen old) (ends_among old (take n (threads_in old.locals))) mid × Stops mid (seen new) t

-- one line was played: it is a turn of a thread whose part is told by its entries
abbrev pub PlaysLine : WorldShown → WorldShown → Request → Type 0
PlaysLine old new r = IsTold (seen old) r.0 × (line : Played) × Turn (seen old) r line (seen new)

-- the threads of a world are those that are asked for something, none has left, and no cycle is open
pub record CanPlay (w : WorldShown) (requests : List Request) : Type 0 where
  pub threads : threads_in w.locals ≡ threads_of requests
  pub running : (t : ℕ) → is_running w t ≡ list_any (λ u. u == t) (threads_of requests)
  pub quiet : IsQuiet w
