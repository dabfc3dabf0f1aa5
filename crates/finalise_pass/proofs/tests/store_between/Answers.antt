use Rattle.finalise_pass.proofs.Storing.{store_enliven}
use Rattle.finalise_pass.proofs.tests.store_between.Goals as goal

pub finish-requires-clause-shut : goal.finish-requires-clause-shut
finish-requires-clause-shut g c =
    store_enliven c.enlivened_stores_keep_the_tricolour_fact.ensures _ _ _ _ _ c.args.b _ _ _ c.store-stored.ensures.stored c.store-stored.ensures.shades c.slice.ensures.shut c.enliven.ensures.shade c.enliven.ensures.mode c.enliven.ensures.only.shape
