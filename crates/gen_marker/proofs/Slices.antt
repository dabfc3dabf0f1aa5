-- A slice scans one block after another
use Rattle.std.proofs.Common.{◌≡◌, ◌≢◌, List, [], ◌∷◌, refl, sym, subst, inl}
use Rattle.az_base.specs.declared.block_id.BlockId.{BlockId}
use Rattle.quantum_space.specs.Shapes.{Shades, Has}
use Rattle.gen_marker.specs.Marking.{Marking, Tracks, NoGrey}
use Rattle.gen_marker.specs.Progress.{SomeGrey}

pub none_grey : (m : Marking) (blocks : List BlockId) (f : Shades) → Tracks m blocks f → m.grey ≡ [] → NoGrey blocks f
none_grey m blocks f t e b h g = let k : Has [] b = subst (λ xs. Has xs b) e (t.grey b h g) in k

pub some_grey : (m : Marking) (blocks : List BlockId) (f : Shades) → Tracks m blocks f → m.grey ≢ [] → SomeGrey blocks f
some_grey m blocks f t n = go m.grey refl
  where
    go : (xs : List BlockId) → m.grey ≡ xs → SomeGrey blocks f
    go [] e = absurd (n e)
    go (x ∷ xs) e = let h : Has m.grey x = subst (λ ys. Has ys x) (sym e) (inl refl) in record { id = x; block = t.block x h; grey = t.each x h }
