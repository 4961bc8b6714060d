-- The exit code of the process for words that begin with `readdev`, and what they did. (This project's own.)
use Rattle.std.specs.Prelude.{◌≡◌, ℕ, List, String, Option, IfSome}
use Rattle.iiod_client.specs.Point.{Point}
use Rattle.iiod_readdev.specs.declared.read_status.ReadStatus.{ReadStatus}
use Rattle.iiod_readdev.specs.declared.read_status.ReadStatus.TheVariants.{ReadFault, Usage}
use Rattle.iiod_readdev.specs.Counts.{ShowsCounts}
use Rattle.iiod_readdev.specs.Reading.{DoesReaddev, NamesCommands}
use Rattle.iiod_readdev.specs.ReadStatus.{read_code}
use Rattle.iiod_readdev.specs.Words.{IsNoReaddev, IsReaddev, ReaddevWords}

-- what is visible of the input, the link and the output at a moment, and their counts of faults
pub record Streams : Type 0 where
  pub input : Option (List ℕ)
  pub over : Point
  pub input_faults : ℕ
  pub link_faults : ℕ
  pub output_faults : ℕ

-- the code is that of a status with which the words ended between two moments: for a description that may use that many
-- drivers, the six words did what they say, and printed nothing if a read of the input failed; other words printed the line
-- that names the commands. Nothing is said of what was received and not looked at
pub record EndsWithCode {A O : Type 0} (drivers : ℕ) (words : List (String A)) (code : ℕ) (a b : Streams) (output output' : O) : Type 0 where
  pub status : ReadStatus
  pub code_is : code ≡ read_code status
  pub does : (said : ReaddevWords) → IsReaddev words said
      → IfSome a.input (λ xs. (pending : List ℕ) × DoesReaddev drivers said xs b.input status a.over (record b.over { pending = pending }))
  pub unprinted : (said : ReaddevWords) → IsReaddev words said → status ≡ ReadFault → output' ≡ output
  pub not_usage : (said : ReaddevWords) → IsReaddev words said → status ≡ Usage → ⊥
  pub usage : IsNoReaddev words → NamesCommands status a.over.printed b.over.printed
  pub counts : ShowsCounts status a.input_faults b.input_faults a.link_faults b.link_faults a.output_faults b.output_faults
