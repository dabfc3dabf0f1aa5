use Rattle.std.proofs.Common.{◌≡◌, ◌++◌, List, take}
use Rattle.az_base.specs.declared.block_id.BlockId.{BlockId}
use Rattle.local_set.specs.Tables.{NotesReferents}
use Rattle.local_set.proofs.blocks.Blocks.note_each.Given as goal

abbrev pub invariant-loop-id : goal.invariant-loop-id
invariant-loop-id l = record {
  list : l.self.list ≡ l.fn.self.list;
  notes : NotesReferents l.fn.self l.self (take l.id-index l.gone);
  more : (more : List BlockId) × (l.self.changed ≡ l.fn.self.changed ++ more);
}
