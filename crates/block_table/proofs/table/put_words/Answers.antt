use Rattle.std.proofs.Common.{Option, ap, ◌∙◌, sym}
use Rattle.std.specs.Option.{option_map_or}
use Rattle.block_layouts.specs.declared.layout.Layout.{Layout}
use Rattle.block_layouts.specs.Layouts.{len_of}
use Rattle.block_table.proofs.Coming.{put_with}
use Rattle.block_table.proofs.table.put_words.Goals as goal

pub write_words-requires : goal.write_words-requires
write_words-requires c = c.requires.fits.all ∙ sym (ap (λ (o : Option Layout). option_map_or len_of o 0) c.put-spot.ensures.put.layout)

pub returns : goal.returns
returns c = put_with c.args.graph.now c.put-spot.new.self c.write_words.new.graph c.args.id c.args.layout c.args.words.now c.put-spot.result c.requires.fits c.put-spot.ensures c.write_words.ensures
