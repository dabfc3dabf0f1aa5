-- A world that plays line after line plays what is requests for in order
use Rattle.std.proofs.Common.{◌≡◌, ℕ, true, List, [], ◌∷◌, ◌++◌, length, refl, sym, ap, ap₂, subst, ◌∙◌, append_assoc, append-nil, true≢false}
use Rattle.az_base.specs.declared.options.Options.{Options}
use Rattle.zone_model.specs.declared.act.Act.{Act}
use Rattle.zone_model.specs.declared.act.Act.TheVariants as act
use Rattle.zone_model.specs.declared.call.Call.{Call}
use Rattle.zone_model.specs.declared.entry.Entry.{Entry}
use Rattle.zone_model.specs.declared.entry.Stats.{Stats}
use Rattle.zone_model.specs.State.{State}
use Rattle.zone_model.specs.Stats.{stats_of}
use Rattle.zone_model.specs.LocalSteps.{LocalRun}
use Rattle.zone_model.proofs.Waiting.{waiting_own}
use Rattle.zone_model.proofs.PartSteps.{parts_law}
use Rattle.zone_model.specs.History.{Ends, Legal, IsGroup, entries_of}
use Rattle.zone_model.specs.Part.{Part, Solo, PartRun, part_of, opening_part}
use Rattle.play_order.specs.Places.{Played}
use Rattle.play_order.specs.Waiting.{Queues, InPlace}
use Rattle.zone_history.specs.Histories.{Request}
use Rattle.play_order.specs.Play.{with_leaves, own_entries, is_local_act, IsTurn, AreTurns, IsPlayOf}
use Rattle.play_order.specs.Playing.{Seen, IsTold, Turn, SoFar}
use Rattle.play_order.proofs.InPlace.{plays_in_place}
use Rattle.play_order.proofs.Threads.{in_turn}
use Rattle.play_order.proofs.Ends.{turns_own}

-- turns go on by one
turns_more : (o : Options) (ds : List Played) (requests : List Request) (ls : List Played) (a : Request) (l : Played) → AreTurns o ds requests ls → IsTurn o (ds ++ ls) a l → AreTurns o ds (requests ++ a ∷ []) (ls ++ l ∷ [])
turns_more o ds [] [] a l h k = (subst (λ es. IsTurn o es a l) (append-nil ds) k, tt)
turns_more o ds [] (x ∷ ls) a l h k = absurd h
turns_more o ds (b ∷ requests) [] a l h k = absurd h
turns_more o ds (b ∷ requests) (x ∷ ls) a l h k = (h.0, turns_more o (ds ++ x ∷ []) requests ls a l h.1 (subst (λ es. IsTurn o es a l) (sym (append_assoc ds (x ∷ []) ls)) k))

-- a local line asks for one call, and so has one entry
one_entry : (p : Part) (a : Act) (es : List Entry) → IsGroup a es → is_local_act p a ≡ true → length es ≡ 1
one_entry p (act.Call c) [] g h = absurd (bad g)
  where
    bad : {c : Call} → [] ≡ c ∷ [] → ⊥
    bad h = cc (h)
one_entry p (act.Call c) (e ∷ []) g h = refl
one_entry p (act.Call c) (e ∷ f ∷ es) g h = absurd (bad g)
  where
    bad : {c d g : Call} {cs : List Call} → g ∷ d ∷ cs ≡ c ∷ [] → ⊥
    bad h = cc (h)
one_entry p (act.Collect m) es g h = absurd (true≢false (sym h))

-- the loop: one more line
pub so_far_more : (requests : List Request) (w after : Seen) (a : Request) (line : Played) → IsTold w a.0 → SoFar requests w → Turn w a line after → SoFar (requests ++ a ∷ []) after
so_far_more requests w after a line told so t =
    let o = w.options in
    let turn : IsTurn o so.lines a line = record { thread = t.thread; group = t.group; own = t.own; part = w.parts line.thread; given = given; local = t.local } in
    let placed = plays_in_place o.pending so.lines line w.queues after.queues so.placed (λ is. one_entry (w.parts line.thread) a.1 line.entries t.group (sym t.local ∙ is)) t.plays in
    record {
      lines = so.lines ++ line ∷ [];
      turns = subst (λ p. AreTurns p [] (requests ++ a ∷ []) (so.lines ++ line ∷ [])) (sym t.options) (turns_more o [] requests so.lines a line so.turns turn);
      placed = subst (λ (p : Options). InPlace p.pending (so.lines ++ line ∷ []) after.queues) (sym t.options) placed;
    }
  where
    given : Solo w.options (own_entries line.thread so.lines) (w.parts line.thread)
    given = subst (λ es. Solo w.options es (w.parts line.thread))
        (ap₂ (λ j es. entries_of line.thread j ++ es) so.placed.journal (so.placed.waits line.thread) ∙ (in_turn w.options.pending so.lines (turns_own w.options [] requests so.lines so.turns)).own line.thread)
        (subst (IsTold w) (sym t.thread) told)

-- at first nothing was requests for
pub so_far_none : (w : Seen) → w.queues.journal ≡ [] → ((t : ℕ) → w.queues.waits t ≡ []) → SoFar [] w
so_far_none w journal waits = record { lines = []; turns = tt; placed = record { journal = journal; waits = waits; single = tt } }

-- at last all was
pub so_far_all : (requests : List Request) (w : Seen) (stats : Stats) → SoFar (with_leaves requests) w → (legal : Legal w.options w.queues.journal) → stats ≡ stats_of legal.0 → IsPlayOf w.options requests w.queues.journal stats
so_far_all requests w stats so legal counted = record {
  last = legal.0;
  legal = legal.1;
  counted = counted;
  lines = so.lines;
  turns = so.turns;
  ordered = so.placed.journal;
}

-- a collection is published step by step: two shared steps of one thread are one
pub published_together : (d mid after : Queues) (t : ℕ) (es fs : List Entry) → mid.journal ≡ d.journal ++ (d.waits t ++ es) → mid.waits t ≡ [] → after.journal ≡ mid.journal ++ (mid.waits t ++ fs) → after.journal ≡ d.journal ++ (d.waits t ++ (es ++ fs))
published_together d mid after t es fs first none second =
    second ∙ ap₂ (λ j w. j ++ (w ++ fs)) first none ∙ append_assoc d.journal (d.waits t ++ es) fs ∙ ap (λ x. d.journal ++ x) (append_assoc (d.waits t) es fs)

own_run_append : (p : Part) (es : List Entry) (mid : Part) (fs : List Entry) (last : Part) → PartRun p es mid → PartRun mid fs last → PartRun p (es ++ fs) last
own_run_append p [] mid fs last h k = subst (λ q. PartRun q fs last) h k
own_run_append p (e ∷ es) mid fs last h k = (h.0, h.1, own_run_append h.0 es mid fs last h.2 k)

-- a local set whose waiting entries are local from its thread's part on is what its thread's entries make, the published and then the waiting ones
pub alone_part : (o : Options) (journal : List Entry) (z : State) (t : ℕ) (ws : List Entry) (last : Part) → Ends o journal z → LocalRun (part_of z t) t ws last → Solo o (entries_of t journal ++ ws) last
alone_part o journal z t ws last ends run = own_run_append (opening_part o) (entries_of t journal) (part_of z t) ws last (parts_law o journal z t ends) (waiting_own (part_of z t) t ws last run)
