-- A new relation goes last.
use Rattle.std.proofs.Common.{◌≡◌, ap, sym, ◌∙◌, [], ◌∷◌, ◌++◌, map, false, Option, None, subst, bytes_eq, string_bytes}
use Rattle.std.specs.Prelude.{String}
use Rattle.std.specs.Global.{Global, Vec}
use Rattle.std.specs.List.{list_any}
use Rattle.std.proofs.lemmas.List.{map-append}
use Rattle.indexmap.specs.IndexMap.{IndexMap, insert_entry}
use Rattle.indexmap.proofs.CallerLemmas.{insert_entry-new}
use Rattle.iv_rows.specs.declared.value.Kind.{Kind}
use Rattle.iv_access.specs.Rights.{Name}
use Rattle.iv_access.specs.Access.{relation_of}
use Rattle.iv_access.specs.Stored.{relation_at}
use Rattle.iv_roles.proofs.Lists.{list_any-no_position-map}
use Rattle.iv_access.proofs.Lists.{lookup-none_passes}

pub insert_entry-new_relation : {S : Type 0} (m : IndexMap (String Global) (Option (Vec Kind)) S) (text : String Global) (kinds : Option (Vec Kind)) (name : Name)
    → string_bytes text ≡ name → relation_of (map relation_at m.entries) name ≡ None
    → map relation_at (insert_entry (λ a b. bytes_eq (string_bytes a) (string_bytes b)) m.entries text kinds) ≡ map relation_at m.entries ++ relation_at (text, kinds) ∷ []
insert_entry-new_relation m text kinds name e new =
    let none : list_any (λ x. bytes_eq name (string_bytes x.0)) m.entries ≡ false = list_any-no_position-map (λ r. bytes_eq name r.name) relation_at m.entries new in
    let here : list_any (λ x. bytes_eq (string_bytes text) (string_bytes x.0)) m.entries ≡ false = subst (λ n. list_any (λ x. bytes_eq n (string_bytes x.0)) m.entries ≡ false) (sym e) none in
    ap (map relation_at) (insert_entry-new (λ a b. bytes_eq (string_bytes a) (string_bytes b)) m text kinds (lookup-none_passes (λ k. bytes_eq (string_bytes text) (string_bytes k)) m.entries here))
    ∙ map-append relation_at m.entries ((text, kinds) ∷ [])
