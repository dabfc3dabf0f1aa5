use Rattle.std.proofs.Common.{◌≡◌, length, sym, ap, ◌∙◌, subst, arith}
use Rattle.std.proofs.lemmas.List.{length-map}
use Rattle.zone_model.specs.Bare.{bare_entry}
use Rattle.history_text.specs.Lines.{IsLine}
use Rattle.history_text.proofs.Drafting.{has_setting, has_entry, cannot_set, cannot_end}
use Rattle.history_text.proofs.draft.Draft.take_line.Goals as goal

pub returns-then-set : goal.returns-then-set
returns-then-set c =
    let said = subst (IsLine c.args.bytes.now) c.in-Setting.is c.in_ok-setting.ensures in
    let done = c.set.ensures in
    has_setting c.args.self.now c.set.new.self c.in-Setting.setting c.args.bytes.now c.requires said (done.yes c.if-set.true) (done.set c.if-set.true)

pub returns-else-set : goal.returns-else-set
returns-else-set c =
    let said = subst (IsLine c.args.bytes.now) c.in-Setting.is c.in_ok-setting.ensures in
    cannot_set c.lines_have_one_reading.ensures c.args.self.now c.in-Setting.setting c.args.bytes.now c.requires said (c.set.ensures.not c.if-set.false)

pub returns-in_ok-push-in-Entry : goal.returns-in_ok-push-in-Entry
returns-in_ok-push-in-Entry c =
    let said = subst (IsLine c.args.bytes.now) c.in-Entry.is c.in_ok-setting.ensures in
    let done = c.in_ok-push-in-Entry.ensures in
    has_entry c.args.self.now c.push.new.self c.in-Entry.entry c.args.bytes.now c.requires said done.options done.entries done.owed done.next

pub returns-else-count-entries : goal.returns-else-count-entries
returns-else-count-entries c =
    let said = subst (IsLine c.args.bytes.now) c.in-End.is c.in_ok-setting.ensures in
    let many : length c.entries.result.now ≡ length c.args.self.now.journal.entries = sym (length-map c.entries.result.now bare_entry) ∙ ap length c.entries.ensures in
    cannot_end c.lines_have_one_reading.ensures c.args.self.now c.in-End.count c.in-End.stats c.args.bytes.now said (λ e. omega (arith, e, many, c.if-count-entries.false))
