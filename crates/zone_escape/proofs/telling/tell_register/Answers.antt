use Rattle.std.proofs.Common.{◌≡◌, ◌∙◌, false, true, sym, ap}
use Rattle.std.specs.Option.{option_eq}
use Rattle.az_base.specs.Ids.{id_eq}
use Rattle.zone_model.specs.Holds.{is_block}
use Rattle.local_set.specs.LocalSets.{held_in}
use Rattle.zone_escape.specs.Telling.{moved_of}
use Rattle.escape_plan.proofs.Telling.{told_as, told_both}
use Rattle.zone_escape.proofs.Told.{moved, itself_eq}
use Rattle.zone_escape.proofs.telling.tell_register.Goals as goal

pub returns-clause-told : goal.returns-clause-told
returns-clause-told c =
    let l = c.args.local.now in
    let a = c.published.result in
    let b = c.register.result in
    told_as l c.args.heap.now c.tell_held-2.new.heap _ _
    (λ q. moved a b q (λ same. let no : false ≡ true = sym c.if-eq.false ∙ c.eq.ensures ∙ ap (option_eq id_eq a) (sym same) ∙ itself_eq a in cc (no))
    ∙ ap (λ v. moved_of q v b) c.published.ensures.value ∙ ap (moved_of q (held_in l.published c.args.reg)) c.register.ensures)
    (told_both l c.args.heap.now c.tell_held.new.heap c.tell_held-2.new.heap (λ q. is_block q a) (λ q. is_block q b) c.tell_held.ensures c.tell_held-2.ensures)
