use Rattle.std.proofs.Common.{string_bytes}
use Rattle.history_text.proofs.Written.{whole}
use Rattle.history_text.proofs.writing.write_text.Goals as goal

pub returns-clause-text : goal.returns-clause-text
returns-clause-text c =
    whole c.args.options.now c.args.entries.now c.args.stats.now (string_bytes c.new-out.result) (string_bytes c.push_settings.new.out) (string_bytes c.push_entries.new.out) (string_bytes c.push_end.new.out) (string_bytes c.push_feed.new.out)
    c.new-out.ensures.bytes c.in_ok-push_settings.ensures c.in_ok-push_entries.ensures.adds c.in_ok-push_end.ensures.adds c.in_ok-push_feed.ensures

pub returns-clause-is : goal.returns-clause-is
returns-clause-is c valid spelled =
    let range = c.in_ok-push_end.ensures.range in
    record {
      options = valid;
      entries = c.in_ok-push_entries.ensures.range;
      spelled = spelled;
      count = range.0;
      stats = range.1;
      text = returns-clause-text c;
    }
