-- Values that differ in the order of their keys alone.
use Rattle.std.specs.Prelude.{◌≡◌, ℕ, List, Option, Some, None}
use Rattle.serde_json.specs.Data.{Data, array, object, Items, no_items, item, Members}
use Rattle.serde_json.specs.Find.{get, get_member}

-- each key has the same value in both, or is in neither
abbrev pub HaveTheSame : Data → Data → Type 0
HaveTheSame d e = (key : List ℕ) → get key d ≡ get key e

-- the same value but for the order of keys, also of the keys of the values in it
mutual
  pub data IsReordered : Data → Data → Type 0 where
    same : (d : Data) → IsReordered d d
    lists : (ds es : Items) → AreReordered ds es → IsReordered (array ds) (array es)
    objects : (ms ns : Members) → ((key : List ℕ) → IsFound (get_member key ms) (get_member key ns)) → IsReordered (object ms) (object ns)

  -- item by item
  pub data AreReordered : Items → Items → Type 0 where
    no_more : AreReordered no_items no_items
    one_more : (d e : Data) (ds es : Items) → IsReordered d e → AreReordered ds es → AreReordered (item d ds) (item e es)

  -- neither has the key, or both have it, with the same value but for the order of keys
  pub data IsFound : Option Data → Option Data → Type 0 where
    neither : IsFound None None
    both : (d e : Data) → IsReordered d e → IsFound (Some d) (Some e)
