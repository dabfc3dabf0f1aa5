-- The admin byte of a quantum that begins a block
use Rattle.std.specs.Prelude.{ℕ, ◌+◌, ◌-◌, ◌*◌, ◌/◌, ◌%◌, ◌==◌, Bool, false, ◌&&◌, nat_le, nat_lt, if◌then◌else◌}
use Rattle.quantum_space.specs.declared.shade.Shade.{Shade}
use Rattle.quantum_space.specs.declared.shade.Shade.TheVariants as shade
use Rattle.quantum_space.specs.declared.admin.Admin.{Admin}

-- the two bits of a shade: 0 white, 1 grey, 2 black
abbrev pub shade_bits : Shade → ℕ
shade_bits shade.White = 0
shade_bits shade.Grey = 1
shade_bits shade.Black = 2

-- the flags: bit 5 where the block is remembered, bit 6 where its finaliser has run, bit 7 always
abbrev pub flag_bits : Bool → Bool → ℕ
flag_bits card finalised = 128 + (if finalised then 64 else 0) + (if card then 32 else 0)

-- the byte: the shade in bits 0 and 1, the age in bits 2 to 4, and the flags
abbrev pub admin_byte : Admin → ℕ
admin_byte a = shade_bits a.shade + 4 * a.age + flag_bits a.card a.finalised

-- the shade that a number tells, white for any other
abbrev pub shade_of : ℕ → Shade
shade_of n = if n == 1 then shade.Grey else (if n == 2 then shade.Black else shade.White)

-- what a byte tells
abbrev pub admin_of : ℕ → Admin
admin_of b = record { shade = shade_of (b % 4); age = (b / 4) % 8; card = (b / 32) % 2 == 1; finalised = (b / 64) % 2 == 1 }

-- the same with another shade
abbrev pub with_shade : Admin → Shade → Admin
with_shade a x = record { shade = x; age = a.age; card = a.card; finalised = a.finalised }

-- the same with another age
abbrev pub with_age : Admin → ℕ → Admin
with_age a n = record { shade = a.shade; age = n; card = a.card; finalised = a.finalised }

-- the byte is of a quantum in use that begins a block
abbrev pub begins_block : ℕ → Bool
begins_block b = if b == 131 then false else nat_le 128 b

-- the byte with the shade white, where it begins a block
abbrev pub whitened : ℕ → ℕ
whitened b = if begins_block b then b - b % 4 else b

-- the byte with an age one higher, where it begins a block and the age was below 3
abbrev pub aged : ℕ → ℕ
aged b = if begins_block b && nat_lt ((b / 4) % 8) 3 then b + 4 else b
