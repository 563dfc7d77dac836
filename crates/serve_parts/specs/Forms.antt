-- The words of `serve`.
use Rattle.std.specs.Prelude.{◌≡◌, ◌≤◌, ℕ, Bool, true, false, not, ◌&&◌, List, [], ◌∷◌, map, Option, Some, None, codes, is_some, unwrap_or, option_and_then, nat_le, nat_eq, if◌then◌else◌}
use Rattle.std.specs.Char.{to_ascii_lowercase}
use Rattle.std.specs.Str.{bytes_eq}
use Rattle.ledger_examples.specs.declared.names.SyncMode.{SyncMode}
use Rattle.ledger_examples.specs.declared.names.SyncMode.TheVariants as mode
use Rattle.ledger_examples.specs.declared.names.DatabaseType.{DatabaseType}
use Rattle.ledger_examples.specs.declared.names.DatabaseType.TheVariants as family
use Rattle.ledger_examples.specs.declared.names.StorageKind.{StorageKind}
use Rattle.ledger_examples.specs.declared.names.StorageKind.TheVariants as storage
use Rattle.ledger_examples.specs.Names.{is_compact_family}
use Rattle.ledger_job.specs.Number.{number_of}
use Rattle.serve_parts.specs.declared.options.Given.{Given}
use Rattle.serve_parts.specs.declared.form.ServeForm.{ServeForm}
use Rattle.serve_parts.specs.declared.form.ServedFrom.{ServedFrom}
use Rattle.serve_parts.specs.declared.form.ServedFrom.TheVariants as source

-- the mode of this name
abbrev pub mode_named : List ℕ → Option SyncMode
mode_named name =
    if bytes_eq name (codes "full") then Some mode.Full else
    (if bytes_eq name (codes "compact") then Some mode.Compact else None)

-- the mode that a word is, whatever the case of its letters
abbrev pub mode_read : List ℕ → Option SyncMode
mode_read word = mode_named (map to_ascii_lowercase word)

-- the family of this name
abbrev pub family_named : List ℕ → Option DatabaseType
family_named name =
    if bytes_eq name (codes "any") then Some family.Any else
    (if bytes_eq name (codes "current") then Some family.Current else
    (if bytes_eq name (codes "immutable") then Some family.Immutable else
    (if bytes_eq name (codes "keyless") then Some family.Keyless else None)))

-- the family that a word is, whatever the case of its letters
abbrev pub family_read : List ℕ → Option DatabaseType
family_read word = family_named (map to_ascii_lowercase word)

-- the kind of storage of this name
abbrev pub storage_named : List ℕ → Option StorageKind
storage_named name =
    if bytes_eq name (codes "full") then Some storage.Full else
    (if bytes_eq name (codes "compact") then Some storage.Compact else None)

-- the kind of storage that a word is, whatever the case of its letters
abbrev pub storage_read : List ℕ → Option StorageKind
storage_read word = storage_named (map to_ascii_lowercase word)

-- where the served log comes from
abbrev pub source_read : List ℕ → Option ServedFrom
source_read word =
    if bytes_eq word (codes "test") then Some source.Test else
    (if bytes_eq word (codes "job") then Some source.Job else None)

-- a port: a number from 1 to 65535
abbrev pub port_of : Option ℕ → Option ℕ
port_of None = None
port_of (Some n) = if nat_le 1 n && nat_le n 65535 then Some n else None

-- a value that wasn't given before
abbrev pub once : {T : Type 0} → Option T → Option T → Option T
once (Some before) value = None
once None value = value

abbrev pub with_mode : Given → Option SyncMode → Option Given
with_mode given None = None
with_mode given (Some m) = Some (record given { mode = Some m })

abbrev pub with_family : Given → Option DatabaseType → Option Given
with_family given None = None
with_family given (Some f) = Some (record given { family = Some f })

abbrev pub with_storage : Given → Option StorageKind → Option Given
with_storage given None = None
with_storage given (Some kind) = Some (record given { storage = Some kind })

abbrev pub with_source : Given → Option ServedFrom → Option Given
with_source given None = None
with_source given (Some s) = Some (record given { source = Some s })

abbrev pub with_port : Given → Option ℕ → Option Given
with_port given None = None
with_port given (Some n) = Some (record given { port = Some n })

abbrev pub with_initial : Given → Option ℕ → Option Given
with_initial given None = None
with_initial given (Some n) = Some (record given { initial = Some n })

abbrev pub with_seed : Given → Option ℕ → Option Given
with_seed given None = None
with_seed given (Some n) = Some (record given { seed = Some n })

abbrev pub with_connections : Given → Option ℕ → Option Given
with_connections given None = None
with_connections given (Some n) = Some (record given { connections = Some n })

abbrev pub with_batch : Given → Option ℕ → Option Given
with_batch given None = None
with_batch given (Some n) = Some (record given { batch = Some n })

-- what was given, with this option of a number
abbrev pub with_number : List ℕ → Option ℕ → Given → Option Given
with_number name number given =
    if bytes_eq name (codes "--port") then with_port given (once given.port (port_of number)) else
    (if bytes_eq name (codes "--initial-ops") then with_initial given (once given.initial number) else
    (if bytes_eq name (codes "--seed") then with_seed given (once given.seed number) else
    (if bytes_eq name (codes "--connections") then with_connections given (once given.connections number) else
    (if bytes_eq name (codes "--ops-per-connection") then with_batch given (once given.batch number) else None))))

-- what was given, with this option; none where it is no option, was given before, or its value is none
abbrev pub with_option : List ℕ → List ℕ → Given → Option Given
with_option name value given =
    if bytes_eq name (codes "--mode") then with_mode given (once given.mode (mode_read value)) else
    (if bytes_eq name (codes "--family") then with_family given (once given.family (family_read value)) else
    (if bytes_eq name (codes "--storage") then with_storage given (once given.storage (storage_read value)) else
    (if bytes_eq name (codes "--source") then with_source given (once given.source (source_read value)) else
    with_number name (number_of value) given)))

-- what was given, with these options: each is a name and a value behind it
abbrev pub options_of : List (List ℕ) → Given → Option Given
options_of [] given = Some given
options_of (name ∷ []) given = None
options_of (name ∷ value ∷ rest) given = option_and_then (options_of rest) (with_option name value given)

-- nothing was given
abbrev pub nothing_given : Given
nothing_given = record { mode = None; family = None; storage = None; source = None; port = None; initial = None; seed = None; connections = None; batch = None }

-- what is asked for, with the default of what wasn't given
abbrev pub asked : Given → ServeForm
asked given = record {
  mode = unwrap_or given.mode mode.Full;
  family = unwrap_or given.family family.Any;
  storage = unwrap_or given.storage storage.Full;
  source = unwrap_or given.source source.Test;
  port = unwrap_or given.port 8080;
  initial = unwrap_or given.initial 100;
  seed = unwrap_or given.seed 0;
  connections = unwrap_or given.connections 1;
  batch = unwrap_or given.batch 0;
}

-- in compact mode the family is one of which a log can be kept without its operations; in full mode no storage is named
abbrev pub fits_mode : SyncMode → DatabaseType → Bool → Bool
fits_mode mode.Full f named = not named
fits_mode mode.Compact f named = is_compact_family f

-- a job's log is one of the family any, served in full mode
abbrev pub fits_source : ServedFrom → SyncMode → DatabaseType → Bool
fits_source source.Job mode.Full family.Any = true
fits_source source.Job m f = false
fits_source source.Test m f = true

-- a family whose keys are updated, served in full mode
abbrev pub takes_batches : SyncMode → DatabaseType → Bool
takes_batches mode.Full family.Any = true
takes_batches mode.Full family.Current = true
takes_batches m f = false

-- where batches are appended, the log takes them, and there are at most 7 connections
abbrev pub fits_batch : ServeForm → Bool
fits_batch form = if nat_eq form.batch 0 then true else takes_batches form.mode form.family && nat_le form.connections 7

-- the numbers are within their limits
abbrev pub fits_numbers : ServeForm → Bool
fits_numbers form = nat_le form.initial 1000000 && nat_le 1 form.connections && nat_le form.connections 8 && nat_le form.batch 9

-- the combination is supported
abbrev pub is_supported : Bool → ServeForm → Bool
is_supported named form = fits_mode form.mode form.family named && fits_source form.source form.mode form.family && fits_numbers form && fits_batch form

-- the form with what was given; an unsupported combination has none
abbrev pub form_given : Given → Option ServeForm
form_given given = if is_supported (is_some given.storage) (asked given) then Some (asked given) else None

-- the form of these options
abbrev pub form_if : Option Given → Option ServeForm
form_if None = None
form_if (Some given) = form_given given

-- what the words ask for: `serve`, and options in any order, each at most once
abbrev pub form_of : List (List ℕ) → Option ServeForm
form_of [] = None
form_of (word ∷ options) = if bytes_eq word (codes "serve") then form_if (options_of options nothing_given) else None

-- the numbers of a form: at most 1,000,000 operations, 1 to 8 connections, at most 9 operations a batch, and at most 7
-- connections where batches are appended
pub record Sound (form : ServeForm) : Type 0 where
  pub initial : form.initial ≤ 1000000
  pub some : 1 ≤ form.connections
  pub few : form.connections ≤ 8
  pub batch : form.batch ≤ 9
  pub room : (form.batch ≡ 0 → ⊥) → form.connections ≤ 7
