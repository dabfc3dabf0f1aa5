use Rattle.std.proofs.Common.{◌≡◌, ◌≤◌, ℕ, zero, suc, Bool, true, false, refl, arith}
use Rattle.quantum_space.specs.declared.shade.Shade.{Shade}
use Rattle.quantum_space.specs.declared.shade.Shade.TheVariants as shade
use Rattle.quantum_space.specs.declared.admin.Admin.{Admin}
use Rattle.quantum_space.specs.AdminBytes.{admin_byte, admin_of}
use Rattle.quantum_space.proofs.admin.bytes_tell_what_was_noted.Goals as goal

abbrev of : Shade → ℕ → Bool → Bool → Admin
of s n c f = record { shade = s; age = n; card = c; finalised = f }

by_flags : (s : Shade) (n : ℕ) (c f : Bool)
    → (admin_of (admin_byte (of s n false false)) ≡ of s n false false)
    → (admin_of (admin_byte (of s n true false)) ≡ of s n true false)
    → (admin_of (admin_byte (of s n false true)) ≡ of s n false true)
    → (admin_of (admin_byte (of s n true true)) ≡ of s n true true)
    → admin_of (admin_byte (of s n c f)) ≡ of s n c f
by_flags s n false false a b x y = a
by_flags s n true false a b x y = b
by_flags s n false true a b x y = x
by_flags s n true true a b x y = y

by_age : (s : Shade) (n : ℕ) (c f : Bool) → n ≤ 3
    → (admin_of (admin_byte (of s 0 c f)) ≡ of s 0 c f) → (admin_of (admin_byte (of s 1 c f)) ≡ of s 1 c f)
    → (admin_of (admin_byte (of s 2 c f)) ≡ of s 2 c f) → (admin_of (admin_byte (of s 3 c f)) ≡ of s 3 c f) → admin_of (admin_byte (of s n c f)) ≡ of s n c f
by_age s zero c f l a b x y = a
by_age s (suc zero) c f l a b x y = b
by_age s (suc (suc zero)) c f l a b x y = x
by_age s (suc (suc (suc zero))) c f l a b x y = y
by_age s (suc (suc (suc (suc n)))) c f l a b x y = absurd (omega (arith, l))

told : (s : Shade) (n : ℕ) (c f : Bool) → n ≤ 3 → admin_of (admin_byte (of s n c f)) ≡ of s n c f
told shade.White n c f l = by_age shade.White n c f l (by_flags shade.White 0 c f refl refl refl refl) (by_flags shade.White 1 c f refl refl refl refl) (by_flags shade.White 2 c f refl refl refl refl) (by_flags shade.White 3 c f refl refl refl refl)
told shade.Grey n c f l = by_age shade.Grey n c f l (by_flags shade.Grey 0 c f refl refl refl refl) (by_flags shade.Grey 1 c f refl refl refl refl) (by_flags shade.Grey 2 c f refl refl refl refl) (by_flags shade.Grey 3 c f refl refl refl refl)
told shade.Black n c f l = by_age shade.Black n c f l (by_flags shade.Black 0 c f refl refl refl refl) (by_flags shade.Black 1 c f refl refl refl refl) (by_flags shade.Black 2 c f refl refl refl refl) (by_flags shade.Black 3 c f refl refl refl refl)

pub returns : goal.returns
returns c = λ a l. told a.shade a.age a.card a.finalised l
