use Rattle.std.proofs.Common.{sym, ◌∙◌}
use Rattle.block_table.proofs.Counts.{place_found, place_none, no_times, so_many_times}
use Rattle.block_table.proofs.holders.Holders.times.Goals as goal

pub returns-in-Some : goal.returns-in-Some
returns-in-Some c =
    let place = place_found c.get.result c.as_slice.result.now (0, 0) c.in-Some.place (sym c.place_of.ensures ∙ c.in-Some.is) in
    rw (c.as_slice-in-Some.ensures, ← c.self.view_is) (sym (so_many_times c.self.inside.counts.items c.args.t _ (rw (← c.as_slice.ensures, ← c.get.ensures.value) place.1)))

pub returns-in-None : goal.returns-in-None
returns-in-None c =
    let none = place_none c.get.result c.as_slice.result.now (sym c.place_of.ensures ∙ c.in-None.is) in
    rw (← c.self.view_is) (sym (no_times c.self.inside.counts.items c.args.t (rw (← c.as_slice.ensures, ← c.get.ensures.value) none)))
