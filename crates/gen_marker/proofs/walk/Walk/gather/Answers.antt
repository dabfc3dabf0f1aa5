use Rattle.std.proofs.Common.{◌∙◌, refl}
use Rattle.quantum_space.proofs.Lists.{filter_next}
use Rattle.gen_marker.proofs.Ends.{empty_stack, room_to_gather}
use Rattle.gen_marker.proofs.walk.Walk.gather.Goals as goal

pub loop-n-init : goal.loop-n-init
loop-n-init g c = record { mode = refl; room = refl; kept = empty_stack _ _ _ c.requires.tracks c.requires.no_grey }

pub gather_nth-requires : goal.gather_nth-requires
gather_nth-requires g c =
    let i = c.loop-n.invariant in
    let room = room_to_gather c.args.self.mode (g.G.Graph.shape c.args.graph.now) (g.G.Graph.shades c.args.graph.now) _ c.loop-n.n c.requires.tracks in
    rw (i.kept, i.mode, i.room) room

pub loop-n-preserved : goal.loop-n-preserved
loop-n-preserved g c =
    let i = c.loop-n.invariant in
    let e = c.gather_nth.ensures in
    record {
      mode = e.mode ∙ i.mode;
      room = e.room ∙ i.room;
      kept = e.nth ∙ rw (i.kept, i.mode, filter_next) refl;
    }
