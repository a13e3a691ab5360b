-- What grantees and forms of the code are: names and keys as their bytes.
use Rattle.std.specs.Prelude.{ℕ, List, Option, String, Vec, map, option_map, string_bytes}
use Rattle.std.specs.Borrow.{Bor}
use Rattle.std.specs.declared.alloc.Global.{Global}
use Rattle.iv_request.specs.Forms as forms
use Rattle.iv_request.specs.declared.forms.Form.{Form}

abbrev pub names_of : Vec (Option (String Global)) Global → List (Option (List ℕ))
names_of grantees = map (option_map string_bytes) grantees.items

abbrev pub keys_seen : List (Bor (List ℕ)) → List (List ℕ)
keys_seen keys = map (λ key. key.now) keys

abbrev pub form_seen : Form → forms.Form
form_seen f = forms.form f.word f.text.now (keys_seen f.required.now) (keys_seen f.optional.now)
