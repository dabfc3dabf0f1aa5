-- Why a count stays as it is
use Rattle.std.specs.Prelude.{◌≡◌, ◌≤◌, ◌<◌, ℕ}
use Rattle.az_base.specs.declared.block_id.BlockId.{BlockId}
use Rattle.retain_table.specs.declared.refused.Raise.{Raise}
use Rattle.retain_table.specs.declared.refused.Raise.TheVariants as raise
use Rattle.retain_table.specs.Counted.{Counted, count_of}

-- the count is full exactly where it is at the limit; memory is wanting only where the block has no count and no room was taken
abbrev pub WhyNotRaised : Counted → ℕ → BlockId → Raise → Type 0
WhyNotRaised c limit id raise.CountFull = limit ≤ count_of c.counts id
WhyNotRaised c limit id raise.NoMemory = (count_of c.counts id < limit) × (count_of c.counts id ≡ 0) × (c.spare ≡ 0)
