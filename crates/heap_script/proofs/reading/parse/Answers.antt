use Rattle.std.proofs.Common.{◌≡◌, ◌+◌, Result, Ok, Err, sym, ap, ◌∙◌, arith}
use Rattle.std.proofs.lemmas.Str.{IsUtf8-from_is_utf8}
use Rattle.az_words.specs.Lines.{lines_of}
use Rattle.heap_script.specs.declared.cause.Cause.{Cause}
use Rattle.heap_script.specs.declared.entries.Entry.{Entry}
use Rattle.heap_script.specs.declared.entries.Entry.TheVariants as entry
use Rattle.heap_script.specs.Scripts.{is_called, CanBePlayed}
use Rattle.heap_script.specs.Reading.Scripts.{entry_of, script_of}
use Rattle.heap_script.proofs.Loop.{at_start, says_at, errs_at, ends_at}
use Rattle.heap_script.proofs.Found.{found}
use Rattle.heap_script.proofs.reading.parse.Goals as goal

pub lines-init : goal.lines-init
lines-init c = record { read = rw (c.usual-options.ensures, c.new-lines.ensures.items) (at_start c.args.bytes.now); few = omega arith; text = λ is. IsUtf8-from_is_utf8 c.args.bytes.now (sym c.is_text-all_text.ensures ∙ is) }

pub returns-in-Err-clause-reads : goal.returns-in-Err-clause-reads
returns-in-Err-clause-reads c =
    let is = sym (c.is_called.ensures ∙ ap is_called c.deref.ensures.value) in
    rw c.at_line.ensures
    (errs_at c.lines.options c.lines.lines.items (c.lines.number + 1) (lines_of c.in-Some.after.now) (lines_of c.lines.rest.now) c.in-Some.line.now c.in-Err.err c.is_called.result c.args.bytes.now
    c.in-Some.ensures.some is c.in-Err.ensures.says c.lines.invariant.read)

pub returns-in-Err-clause-gives : goal.returns-in-Err-clause-gives
returns-in-Err-clause-gives c = found c.scripts_are_read.ensures c.scripts_are_refused.ensures c.args.bytes.now (Err c.at_line.result) (returns-in-Err-clause-reads c)

pub lines-preserved-in-Ok-Nothing : goal.lines-preserved-in-Ok-Nothing
lines-preserved-in-Ok-Nothing c =
    let front = c.lines.lines.items in
    let e : entry_of (c.lines.number + 1) (is_called front) c.in-Some.line.now ≡ Ok entry.Nothing =
    ap (λ called. entry_of (c.lines.number + 1) called c.in-Some.line.now) (sym (c.is_called.ensures ∙ ap is_called c.deref.ensures.value)) ∙ c.in-Ok-Nothing.ensures.says ∙ ap {B = Result Entry Cause} Ok c.in-Ok-Nothing.field-0-is in
    record {
      read = says_at c.lines.options front (c.lines.number + 1) (lines_of c.in-Some.after.now) (lines_of c.lines.rest.now) c.in-Some.line.now entry.Nothing (script_of c.args.bytes.now)
          c.in-Some.ensures.some e c.lines.invariant.read;
      few = omega (arith, c.in-Ok-Nothing.ensures.few);
      text = λ is. (c.in-Some.ensures.text (c.lines.invariant.text is)).1;
    }

pub lines-preserved-in-Ok-Set : goal.lines-preserved-in-Ok-Set
lines-preserved-in-Ok-Set c =
    let front = c.lines.lines.items in
    let set = c.in-Ok-Set.setting in
    let e : entry_of (c.lines.number + 1) (is_called front) c.in-Some.line.now ≡ Ok (entry.Set set) =
    ap (λ called. entry_of (c.lines.number + 1) called c.in-Some.line.now) (sym (c.is_called.ensures ∙ ap is_called c.deref.ensures.value)) ∙ c.in-Ok-Set.ensures.says ∙ ap {B = Result Entry Cause} Ok c.in-Ok-Set.field-0-is in
    record {
      read = rw c.onto-options.ensures
          (says_at c.lines.options front (c.lines.number + 1) (lines_of c.in-Some.after.now) (lines_of c.lines.rest.now) c.in-Some.line.now (entry.Set set) (script_of c.args.bytes.now)
          c.in-Some.ensures.some e c.lines.invariant.read);
      few = omega (arith, c.in-Ok-Set.ensures.few);
      text = λ is. (c.in-Some.ensures.text (c.lines.invariant.text is)).1;
    }

pub lines-preserved : goal.lines-preserved
lines-preserved c =
    let front = c.lines.lines.items in
    let call = c.in-Ok-Call.line in
    let e : entry_of (c.lines.number + 1) (is_called front) c.in-Some.line.now ≡ Ok (entry.Call call) =
    ap (λ called. entry_of (c.lines.number + 1) called c.in-Some.line.now) (sym (c.is_called.ensures ∙ ap is_called c.deref.ensures.value)) ∙ c.in-Ok-Call.ensures.says ∙ ap {B = Result Entry Cause} Ok c.in-Ok-Call.field-0-is in
    record {
      read = rw c.in_ok-push-in-Ok-Call.ensures.items
          (says_at c.lines.options front (c.lines.number + 1) (lines_of c.in-Some.after.now) (lines_of c.lines.rest.now) c.in-Some.line.now (entry.Call call) (script_of c.args.bytes.now)
          c.in-Some.ensures.some e c.lines.invariant.read);
      few = omega (arith, c.in-Ok-Call.ensures.few);
      text = λ is. (c.in-Some.ensures.text (c.lines.invariant.text is)).1;
    }

pub returns-clause-reads : goal.returns-clause-reads
returns-clause-reads c =
    rw c.from_vec.ensures
    (ends_at c.lines.options c.lines.lines.items (c.lines.number + 1) (lines_of c.lines.rest.now) (script_of c.args.bytes.now) c.in_default.ensures.none c.lines.invariant.read)

pub returns-clause-gives : goal.returns-clause-gives
returns-clause-gives c = (c.scripts_are_read.ensures c.args.bytes.now (record { options = c.lines.options; lines = c.from_vec.result })).0 (returns-clause-reads c)

playable : (c : goal.After-from_vec) → CanBePlayed (record { options = c.lines.options; lines = c.from_vec.result })
playable c = c.scripts_can_be_played.ensures c.args.bytes.now (record { options = c.lines.options; lines = c.from_vec.result }) (returns-clause-gives c)

pub returns-clause-options : goal.returns-clause-options
returns-clause-options c = (playable c).options

pub returns-clause-threads : goal.returns-clause-threads
returns-clause-threads c = (playable c).threads

pub returns-clause-named : goal.returns-clause-named
returns-clause-named c = (playable c).named

pub returns-clause-spelled : goal.returns-clause-spelled
returns-clause-spelled c = (playable c).spelled

pub read_entry-requires : goal.read_entry-requires
read_entry-requires c = λ is. (c.in-Some.ensures.text (c.lines.invariant.text is)).0
