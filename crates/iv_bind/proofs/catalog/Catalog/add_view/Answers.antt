use Rattle.iv_bind.proofs.catalog.Catalog.add_view.Goals as goal

pub add-requires : goal.add-requires
add-requires c = record { schema = c.columns.ensures.schema; typed = c.requires.typed; scanned = c.requires.scanned }
