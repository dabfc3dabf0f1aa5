use Rattle.std.proofs.Common.{◌≡◌, ◌≤◌, ◌+◌, ◌-◌, ◌∙◌, sym, arith, length, map, refl}
use Rattle.heap_tables.specs.Graphs.{if_held_in, some_block}
use Rattle.block_table.proofs.Somes.{mapped_at, mapped_past, length_mapped, first_of_two, second_of_two, none_of_two, within_list}
use Rattle.heap_tables.proofs.tables.Tables.late_anchor_from.Goals as goal

pub returns-then-place-counted-clause-next : goal.returns-then-place-counted-clause-next
returns-then-place-counted-clause-next c =
    let rows = c.args.self.now.blocks in
    let counted = c.args.self.now.counts.order in
    let long : length (map some_block counted) ≡ length counted = length_mapped some_block counted in
    let is = sym c.nth.ensures ∙ c.in-Some.is in
    let fits = within_list counted c.args.place c.in-Some.id is in
    first_of_two (map some_block counted) (map (if_held_in rows.holds) rows.order) c.args.place (c.in-Some.id, c.args.place + 1)
    (mapped_at some_block counted c.args.place c.in-Some.id c.in-Some.id is refl, omega (arith, long, fits))

pub returns-in-Some-held_from-clause-next : goal.returns-in-Some-held_from-clause-next
returns-in-Some-held_from-clause-next c =
    let rows = c.args.self.now.blocks in
    let counted = c.args.self.now.counts.order in
    let long : length (map some_block counted) ≡ length counted = length_mapped some_block counted in
    let all : c.len-counted.result ≡ length counted = c.len-counted.ensures.positions in
    let past : length counted ≤ c.args.place = omega (arith, all, c.if-place-counted.false) in
    second_of_two (map some_block counted) (map (if_held_in rows.holds) rows.order) c.args.place (c.args.place - c.len-counted.result) c.in-Some-held_from.found.0 c.in-Some-held_from.found.1 (c.in-Some-held_from.found.1 + c.len-counted.result)
    (mapped_past some_block counted c.args.place past) (omega (arith, long, all)) (omega (arith, long, all)) c.in-Some-held_from.ensures.next

pub returns-in-None-clause-next : goal.returns-in-None-clause-next
returns-in-None-clause-next c =
    let rows = c.args.self.now.blocks in
    let counted = c.args.self.now.counts.order in
    let long : length (map some_block counted) ≡ length counted = length_mapped some_block counted in
    let all : c.len-counted.result ≡ length counted = c.len-counted.ensures.positions in
    let past : length counted ≤ c.args.place = omega (arith, all, c.if-place-counted.false) in
    none_of_two (map some_block counted) (map (if_held_in rows.holds) rows.order) c.args.place (c.args.place - c.len-counted.result)
    (mapped_past some_block counted c.args.place past) (omega (arith, long, all)) c.in-None.ensures.next
