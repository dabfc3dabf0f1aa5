use Rattle.std.proofs.Common.{refl, sym, ap, ◌∙◌, slice_get}
use Rattle.play_core.specs.Playing.{EndStops}
use Rattle.play_core.specs.Worlds.{seen}
use Rattle.play_core.proofs.Ending.{ended_more, still_within, on_err}
use Rattle.play_core.proofs.world.World.end.Goals as goal

pub loop-at-init : goal.loop-at-init
loop-at-init c = record { ended = record { turned = refl; threads = refl; others = λ u off. refl }; quiet = c.requires.quiet }

pub thread_at-thread-requires : goal.thread_at-thread-requires
thread_at-thread-requires c =
    still_within c.args.self.now c.loop-at.self c.count-at-end.result c.loop-at.at c.loop-at.invariant.ended.threads c.count-at-end.ensures c.loop-at-test.true

pub returns-in_err-leave-clause-err : goal.returns-in_err-leave-clause-err
returns-in_err-leave-clause-err c =
    on_err c.from_residual.result (EndStops c.args.self.now c.leave.new.self) (c.loop-at.at, c.thread_at-thread.result, ap (λ ts. slice_get ts c.loop-at.at) (sym c.loop-at.invariant.ended.threads) ∙ c.thread_at-thread.ensures.thread, seen c.loop-at.self, c.loop-at.invariant.ended.turned, c.in_err-leave.ensures.err)

pub loop-at-preserved : goal.loop-at-preserved
loop-at-preserved c =
    let left = c.in_ok-leave.ensures in
    let at = c.thread_at-thread.ensures in
    record {
      ended = ended_more c.args.self.now c.loop-at.self c.leave.new.self c.loop-at.at c.thread_at-thread.result c.loop-at.invariant.ended at.ascending at.thread left.ok left.others left.threads;
      quiet = left.quiet;
    }
