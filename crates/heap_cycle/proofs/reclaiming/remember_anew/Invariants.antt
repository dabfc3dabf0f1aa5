use Rattle.std.proofs.Common.{◌≡◌, ◌≤◌, ◌+◌, length, vec_len}
use Rattle.std.specs.Vec.{vec_capacity}
use Rattle.heap_cycle.proofs.Remade.{Listed}
use Rattle.heap_cycle.proofs.reclaiming.remember_anew.Given as goal

-- the list has those of the first n positions that want a card
abbrev pub invariant-loop-n : goal.invariant-loop-n
invariant-loop-n l = record {
  listed : Listed l.fn.tables l.n l.ids.items;
  few : vec_len l.ids ≤ l.n;
  room : vec_capacity l.ids ≡ length l.fn.tables.cards.list + l.fn.tables.cards.spare;
}
