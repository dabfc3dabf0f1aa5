use Rattle.std.proofs.Common.{◌≡◌, ◌<◌, ◌≤◌, ℕ, get_or}
use Rattle.quantum_space.specs.AdminBytes.{whitened}
use Rattle.quantum_space.proofs.admin_map.whiten_bytes.Given as goal

abbrev pub invariant-loop-byte : goal.invariant-loop-byte
invariant-loop-byte l = record {
  done : (k : ℕ) → k < l.byte-index → get_or l.byte-items k 0 ≡ whitened (get_or l.fn.bytes.items k 0);
  left : (k : ℕ) → l.byte-index ≤ k → get_or l.byte-items k 0 ≡ get_or l.fn.bytes.items k 0;
}
