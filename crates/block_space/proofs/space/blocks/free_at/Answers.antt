use Rattle.std.proofs.Common.{◌≡◌, ◌+◌, false, Option, Some, None, IfSome, MatchOption, is_some, refl, arith, subst, sym, ◌∙◌, get_or}
use Rattle.block_layouts.specs.declared.layout.Layout.{Layout}
use Rattle.block_layouts.specs.Layouts.{len_of, quanta}
use Rattle.quantum_space.specs.Regions.{IsFreed}
use Rattle.block_space.proofs.Keeping.{stored_block}
use Rattle.block_space.proofs.Sums.{stored_quanta}
use Rattle.block_space.proofs.space.blocks.free_at.Goals.{then-begins_at, else-begins_at}
use Rattle.block_space.proofs.space.blocks.free_at.Goals as goal

none_there : (m : Option Layout) → is_some m ≡ false → m ≡ None
none_there None e = refl
none_there (Some l) e = cc

pub overflow_sub-used : goal.overflow_sub-used
overflow_sub-used c =
    let r = c.args.region.now in
    let b = stored_block r c.args.at (c.begins_at.ensures.block c.if-begins_at.true) in
    let q : c.quanta_at.result ≡ quanta (len_of b.0) = subst (λ (o : Option Layout). IfSome o (λ l. c.quanta_at.result ≡ quanta (len_of l))) b.1 c.quanta_at.ensures in
    omega (arith, q, stored_quanta r.layouts c.args.at b.0 b.1, c.requires)

pub returns-clause-freed : goal.returns-clause-freed
returns-clause-freed c =
    let r = c.args.region.now in
    elim c.if-begins_at.branch [
      | then-begins_at w ↦ (let b = stored_block r c.args.at (c.begins_at.ensures.block w.if-begins_at.true) in
          let q : w.quanta_at.result ≡ quanta (len_of b.0) = subst (λ (o : Option Layout). IfSome o (λ l. w.quanta_at.result ≡ quanta (len_of l))) b.1 w.quanta_at.ensures in
          let freed : IsFreed r w.free.new.self b.0 c.args.at = subst (λ (o : Option Layout). IfSome o (λ l. IsFreed r w.free.new.self l c.args.at)) b.1 w.free.ensures in
          subst (λ (o : Option Layout). MatchOption o ((c.if-begins_at.region ≡ r) × (c.if-begins_at.used ≡ c.args.used.now)) (λ l. IsFreed r c.if-begins_at.region l c.args.at × (c.if-begins_at.used + quanta (len_of l) ≡ c.args.used.now))) (sym b.1)
          (subst (λ x. IsFreed r x b.0 c.args.at) (sym w.region-is) freed, omega (arith, w.used-is, q, stored_quanta r.layouts c.args.at b.0 b.1, c.requires)))
      | else-begins_at w ↦ (let e = none_there (get_or r.layouts c.args.at None) (sym c.begins_at.ensures.value ∙ w.if-begins_at.false) in
          subst (λ (o : Option Layout). MatchOption o ((c.if-begins_at.region ≡ r) × (c.if-begins_at.used ≡ c.args.used.now)) (λ l. IsFreed r c.if-begins_at.region l c.args.at × (c.if-begins_at.used + quanta (len_of l) ≡ c.args.used.now))) (sym e)
          (w.region-is, w.used-is))
    ]
