-- Names of requests: how a client says one, whose it is, and where its holder's names stand.
use Rattle.std.specs.Prelude.{ℕ, ◌==◌, ◌^◌, ◌&&◌, ◌||◌, Bool, if◌then◌else◌, List, [], ◌∷◌, ◌++◌, codes, decimal, length, nat_le, nat_lt, Option, Some, None, option_map, option_and_then}
use Rattle.std.specs.List.{list_all}
use Rattle.std.specs.Str.{is_utf8}
use Rattle.serde_json.specs.Find.{as_number, as_u64}
use Rattle.iv_access.specs.Rights.{Name}
use Rattle.iv_message.specs.Message.{id_in}
use Rattle.iv_message.specs.Told.{most_names}
use Rattle.iv_once.specs.Names.{Limits, Place}
use Rattle.iv_request.specs.Reading.{value_of}
use Rattle.iv_request.specs.Request.{passing}
use Rattle.iv_records.specs.Cuts.{behind, between, cut_at}

-- what bounds them: 64 of each holder are kept, it may have 64 refused until these are forgiven, and 4,096 holders may have names
abbrev pub limits : Limits
limits = record { names = most_names; refusals = 64; holders = 4096 }

-- whose they are: a role's and a user's, never a token's or a socket's; a user is text (RFC 3629)
abbrev pub holder_of : Name → List ℕ → List ℕ
holder_of role user = role ++ 47 ∷ (if is_utf8 user then user else [])

abbrev pub place_text : Place → List ℕ
place_text p = p.epoch ++ 46 ∷ decimal p.count

-- what a client says: the name, and the place that it knew when it said it first
pub record Claim : Type 0 where
  pub name : List ℕ
  pub at : Place

abbrev pub is_between : ℕ → ℕ → ℕ → Bool
is_between a b x = nat_le a x && nat_le x b

-- a letter, a digit, `-` or `_` (RFC 4648, section 5)
abbrev pub is_letter : ℕ → Bool
is_letter b = (is_between 65 90 b || is_between 97 122 b) || (is_between 48 57 b || ((b == 45) || (b == 95)))

-- 22 of them have 128 random bits
abbrev pub is_random : List ℕ → Bool
is_random name = (length name == 22) && list_all is_letter name

-- 32 hexadecimal digits
abbrev pub is_epoch : List ℕ → Bool
is_epoch text = (length text == 32) && list_all (λ b. is_between 48 57 b || is_between 97 102 b) text

-- a number of 64 bits
abbrev pub is_count : ℕ → Bool
is_count n = nat_lt n (2 ^ 64)

abbrev pub count_in : List ℕ → Option ℕ
count_in text = option_and_then (passing is_count) (option_and_then as_u64 (option_and_then as_number (option_and_then id_in (value_of text))))

-- a name, an epoch and the digits of a count, as they are written, and what follows them
pub record Spelled : Type 0 where
  pub name : List ℕ
  pub epoch : List ℕ
  pub digits : List ℕ
  pub rest : List ℕ

abbrev pub behind_count : (name epoch : List ℕ) → List ℕ × List ℕ → Option Spelled
behind_count name epoch c = option_map {U = Spelled} (λ rest. record { name = name; epoch = epoch; digits = c.0; rest = rest }) (behind (codes ",") c.1)

abbrev pub behind_epoch : (name : List ℕ) → List ℕ × List ℕ → Option Spelled
behind_epoch name e = option_and_then (behind_count name e.0) (cut_at 34 e.1)

abbrev pub behind_name : List ℕ × List ℕ → Option Spelled
behind_name n = option_and_then (behind_epoch n.0) (between (codes ",\"at\":\"") 46 n.1)

-- `"once":"NAME","at":"EPOCH.COUNT",` and the rest
abbrev pub spelled_in : List ℕ → Option Spelled
spelled_in text = option_and_then behind_name (between (codes "\"once\":\"") 34 text)

abbrev pub claimed : Spelled → Option (Claim × List ℕ)
claimed s = if is_random s.name && is_epoch s.epoch
    then option_map {U = Claim × List ℕ} (λ count. (record { name = s.name; at = record { epoch = s.epoch; count = count } }, 123 ∷ s.rest)) (count_in s.digits)
    else None

-- the name in front of a message, and the rest of it
abbrev pub claim_in : List ℕ → Option (Claim × List ℕ)
claim_in text = option_and_then claimed (option_and_then spelled_in (behind (codes "{") text))
