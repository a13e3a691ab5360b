-- A conversation with a keeper, as lines.
use Rattle.std.specs.Prelude.{ℕ, List, [], ◌∷◌, codes, None, Some}
use Rattle.iv_door.specs.Said.{Log, Said, begins, brings, ends, goes_on, keeps, leads, opens, recalls, shuts}
use Rattle.iv_door.specs.Answers as answer
use Rattle.iv_door.specs.Answers.{fault_line, gap, hello, not_accepted, not_decided, on_disk, other_log, recalled}

abbrev pub example : Log
example = record { name = codes "example"; epoch = codes "0123456789abcdef0123456789abcdef" }

-- what is said, and its lines
abbrev pub said : List Said
said = begins example ∷ brings (codes "\"as\":\"admin\",\"do\":\"create_role\",\"name\":\"mia\"}")
    ∷ ends 0 12 ∷ opens ∷ shuts ∷ recalls ∷ goes_on example ∷ leads ∷ keeps 14 ∷ []

abbrev pub said_lines : List (List ℕ)
said_lines =
    codes "{\"begin\":\"example\",\"epoch\":\"0123456789abcdef0123456789abcdef\"}" ∷
    codes "{\"as\":\"admin\",\"do\":\"create_role\",\"name\":\"mia\"}" ∷
    codes "{\"from\":0,\"step\":12}" ∷
    codes "{\"open\":true}" ∷
    codes "{\"open\":false}" ∷
    codes "{\"recall\":true}" ∷
    codes "{\"go_on\":\"example\",\"epoch\":\"0123456789abcdef0123456789abcdef\"}" ∷
    codes "{\"lead\":true}" ∷
    codes "{\"kept\":14}" ∷ []

-- what is answered, and its lines
abbrev pub told : List (List ℕ)
told =
    hello 65536 None ∷
    hello 65536 (Some (record { log = example; position = 12 })) ∷
    on_disk 12 ∷
    recalled 12 ∷
    answer.leads 12 ∷
    fault_line (gap 14 13 12) ∷
    fault_line (not_accepted 2 14 9) ∷
    fault_line (other_log example) ∷
    fault_line (not_decided 15 12 14) ∷ []

abbrev pub told_lines : List (List ℕ)
told_lines =
    codes "{\"door\":1,\"rows\":65536}" ∷
    codes "{\"door\":1,\"rows\":65536,\"log\":\"example\",\"epoch\":\"0123456789abcdef0123456789abcdef\",\"position\":12}" ∷
    codes "{\"on_disk\":12}" ∷
    codes "{\"recalled\":12}" ∷
    codes "{\"leads\":12}" ∷
    codes "{\"fault\":\"step 14 is from 13, and the position is 12\"}" ∷
    codes "{\"fault\":\"entry 2 of step 14 is refused by 9\"}" ∷
    codes "{\"fault\":\"the log example of epoch 0123456789abcdef0123456789abcdef is followed here: another one needs a new journal file\"}" ∷
    codes "{\"fault\":\"kept 15 is not from 12 to 14\"}" ∷ []
