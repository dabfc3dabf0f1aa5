use Rattle.std.proofs.Common.{false, None, Some, refl, sym, ◌∙◌}
use Rattle.az_base.specs.declared.word.Class.TheVariants as class
use Rattle.zone_model.specs.declared.call.Call.TheVariants as call
use Rattle.zone_model.specs.declared.call.Loc.TheVariants as loc
use Rattle.zone_model.specs.declared.entry.Reply.TheVariants as reply
use Rattle.zone_escape.proofs.Making.{can_receive, makes_read}
use Rattle.zone_escape.proofs.Shown.{misused, part, running, held}
use Rattle.zone_escape.proofs.WeakLocations.{own_three, own_layout, own_there, own_reads, none_more, no_need}
use Rattle.zone_escape.proofs.weak.read_own.Goals as goal

pub returns-in-Some-clause-makes : goal.returns-in-Some-clause-makes
returns-in-Some-clause-makes c =
    let l = c.args.local.now in
    let h = c.args.heap.now in
    let can = c.requires.can in
    let the_call = call.ReadWeak c.args.to (loc.Word c.args.from c.args.at) in
    misused l h the_call can l h c.in-Some.misuse refl refl (λ z t.
    let layout = own_layout l z (part l h the_call can z t) c.args.id c.layout_of.result.now c.requires.own c.layout_of.ensures in
    let holds = sym (held l h the_call can z t c.args.from (Some c.args.id) (sym c.requires.holds)) in
    ((λ _. false), no_need, own_three z l.thread c.args.from c.args.at the_call class.Weak c.args.id c.layout_of.result.now holds layout (record { holder = refl; word = refl }) ∙ sym c.layout_misuse.ensures ∙ c.in-Some.is, t))

pub receive-requires-clause-called : goal.receive-requires-clause-called
receive-requires-clause-called c =
    let l = c.args.local.now in
    let h = c.args.heap.now in
    let can = c.requires.can in
    let the_call = call.ReadWeak c.args.to (loc.Word c.args.from c.args.at) in
    can_receive l h the_call can h c.args.to (reply.Block None) l.thread refl refl (none_more h l.thread) refl (λ z t.
    let is = part l h the_call can z t in
    let layout = own_layout l z is c.args.id c.layout_of.result.now c.requires.own c.layout_of.ensures in
    let holds = sym (held l h the_call can z t c.args.from (Some c.args.id) (sym c.requires.holds)) in
    own_reads h z l.thread c.args.to c.args.from c.args.at c.args.id t.heap.stands t.heap.sound (running l h the_call can z t) holds (own_there l z is c.args.id c.requires.own)
    (own_three z l.thread c.args.from c.args.at the_call class.Weak c.args.id c.layout_of.result.now holds layout (record { holder = refl; word = refl }) ∙ sym c.layout_misuse.ensures ∙ c.in_default.is))

pub returns-clause-makes : goal.returns-clause-makes
returns-clause-makes c =
    let l = c.args.local.now in
    let h = c.args.heap.now in
    let can = c.requires.can in
    let the_call = call.ReadWeak c.args.to (loc.Word c.args.from c.args.at) in
    makes_read l h the_call can h c.args.to (reply.Block None) l.thread refl refl (none_more h l.thread) refl (λ z t.
    let is = part l h the_call can z t in
    let layout = own_layout l z is c.args.id c.layout_of.result.now c.requires.own c.layout_of.ensures in
    let holds = sym (held l h the_call can z t c.args.from (Some c.args.id) (sym c.requires.holds)) in
    own_reads h z l.thread c.args.to c.args.from c.args.at c.args.id t.heap.stands t.heap.sound (running l h the_call can z t) holds (own_there l z is c.args.id c.requires.own)
    (own_three z l.thread c.args.from c.args.at the_call class.Weak c.args.id c.layout_of.result.now holds layout (record { holder = refl; word = refl }) ∙ sym c.layout_misuse.ensures ∙ c.in_default.is))
    c.receive.new.local c.receive.new.heap c.receive.ensures.together c.receive.ensures.local c.receive.ensures.heap
