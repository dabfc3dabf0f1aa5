use Rattle.std.proofs.Common.{◌≡◌, ◌≤◌, length, take, vec_len, vec_capacity}
use Rattle.play_core.specs.Opening.{AreNew}
use Rattle.play_core.proofs.world.sets.Given as goal

abbrev pub invariant-loop-thread : goal.invariant-loop-thread
invariant-loop-thread l = record {
  made : AreNew l.options (take l.thread-index l.threads) l.locals.items;
  number : vec_len l.locals ≡ l.thread-index;
  room : length l.threads ≤ vec_capacity l.locals;
}
