-- Numbers of tickets, counted modulo 2 ^ 64
use Rattle.std.proofs.Common.{◌≡◌, ◌≢◌, ℕ, ◌+◌, ◌-◌, ◌%◌, ◌^◌, ◌<◌, ◌≤◌, arith}
use Rattle.zone_gate.specs.Owning.{most_threads}

-- the next ticket
pub next_ticket : (serving out : ℕ) → ((serving + out) % 2 ^ 64 + 1) % 2 ^ 64 ≡ (serving + (out + 1)) % 2 ^ 64
next_ticket serving out = omega arith

-- one ticket less is out from the next one on
pub next_serving : (serving out : ℕ) → 0 < out → (serving + out) % 2 ^ 64 ≡ ((serving + 1) % 2 ^ 64 + (out - 1)) % 2 ^ 64
next_serving serving out some_out = omega arith

-- two tickets that are out differ
pub tickets_differ : (serving j k : ℕ) → j < k → k ≤ most_threads → (serving + j) % 2 ^ 64 ≢ (serving + k) % 2 ^ 64
tickets_differ serving j k less few e = omega arith

-- the ticket that is served is the first
pub first_ticket : (serving k : ℕ) → serving < 2 ^ 64 → k ≤ most_threads → serving ≡ (serving + k) % 2 ^ 64 → k ≡ 0
first_ticket serving k low few e = omega arith
