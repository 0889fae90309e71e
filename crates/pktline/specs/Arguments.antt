-- What the words of a call ask for.
use Rattle.std.specs.Prelude.{ℕ, Bool, true, false, cond, ◌||◌, List, [], ◌∷◌, Ok, Err, codes, Result, ◌==◌, slice_index}
use Rattle.std.specs.Str.{bytes_eq}
use Rattle.pktline.specs.declared.command.Command.{Command}
use Rattle.pktline.specs.declared.command.Command.TheVariants.{Help, Show}
use Rattle.pktline.specs.declared.command.Misuse.{Misuse}
use Rattle.pktline.specs.declared.command.Misuse.TheVariants.{UnknownCommand, UnknownOption, NoFile, Unexpected}

pub data Asked : Type 0 where
  help : Asked
  show : List ℕ → Bool → Asked

pub data Misused : Type 0 where
  unknown_command : List ℕ → Misused
  unknown_option : List ℕ → Misused
  no_file : Misused
  unexpected : List ℕ → Misused

-- a word that begins with a hyphen is an option
abbrev pub starts_option : List ℕ → Bool
starts_option w = slice_index w 0 == 45

-- behind the options of show: one file
abbrev pub asked_file : List (List ℕ) → Bool → Result Asked Misused
asked_file [] bands = Err no_file
asked_file (w ∷ []) bands = cond (starts_option w) (Err (unknown_option w)) (Ok (show w bands))
asked_file (w ∷ extra ∷ ws) bands = cond (starts_option w) (Err (unknown_option w)) (Err (unexpected extra))

-- behind show: its one option may come first
abbrev pub asked_show : List (List ℕ) → Result Asked Misused
asked_show [] = Err no_file
asked_show (w ∷ ws) = cond (bytes_eq w (codes "--bands")) (asked_file ws true) (asked_file (w ∷ ws) false)

-- the words that ask for help
abbrev pub names_help : List ℕ → Bool
names_help w = bytes_eq w (codes "help") || (bytes_eq w (codes "--help") || bytes_eq w (codes "-h"))

-- all words: none ask for help too
abbrev pub asked : List (List ℕ) → Result Asked Misused
asked [] = Ok help
asked (w ∷ ws) =
    cond (names_help w) (Ok help)
    (cond (bytes_eq w (codes "show")) (asked_show ws) (Err (unknown_command w)))

-- what a command and a misuse of the code stand for
abbrev pub asked_of : Command → Asked
asked_of Help = help
asked_of (Show file bands) = show file.now bands

abbrev pub misuse_of : Misuse → Misused
misuse_of (UnknownCommand w) = unknown_command w.now
misuse_of (UnknownOption w) = unknown_option w.now
misuse_of NoFile = no_file
misuse_of (Unexpected w) = unexpected w.now
