use Rattle.iv_bind.proofs.LargerCatalog.{HeldIsSound-push, IsSoundCatalog-push}
use Rattle.iv_bind.proofs.laws.sound_catalogs_grow.Goals as goal

pub returns : goal.returns
returns c = record {
  held = λ catalog name rel more held s. HeldIsSound-push catalog (record { name = name; rel = rel; held = more }) held s;
  catalog = λ catalog name rel held s h. IsSoundCatalog-push catalog (record { name = name; rel = rel; held = held }) s h;
}
