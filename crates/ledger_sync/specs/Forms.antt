-- The words of `sync`.
use Rattle.std.specs.Prelude.{ℕ, ◌&&◌, List, [], ◌∷◌, map, Option, Some, None, codes, unwrap_or, option_and_then, nat_lt, nat_le, if◌then◌else◌}
use Rattle.std.specs.Char.{to_ascii_lowercase}
use Rattle.std.specs.Str.{bytes_eq}
use Rattle.ledger_examples.specs.declared.names.SyncMode.{SyncMode}
use Rattle.ledger_examples.specs.declared.names.SyncMode.TheVariants as mode
use Rattle.ledger_examples.specs.declared.names.DatabaseType.{DatabaseType}
use Rattle.ledger_examples.specs.declared.names.DatabaseType.TheVariants as family
use Rattle.ledger_examples.specs.Names.{has_client_mode}
use Rattle.ledger_job.specs.Number.{number_of}
use Rattle.sync_client.specs.Asking.{LimitsView}
use Rattle.ledger_sync.specs.declared.options.Given.{Given}
use Rattle.ledger_sync.specs.declared.form.SyncForm.{SyncForm}

-- the mode of this name
abbrev pub mode_named : List ℕ → Option SyncMode
mode_named name =
    if bytes_eq name (codes "full") then Some mode.Full else
    (if bytes_eq name (codes "compact") then Some mode.Compact else None)

-- the mode that a word is, whatever the case of its letters
abbrev pub mode_read : List ℕ → Option SyncMode
mode_read word = mode_named (map to_ascii_lowercase word)

-- the family of this name
abbrev pub family_named : List ℕ → Option DatabaseType
family_named name =
    if bytes_eq name (codes "any") then Some family.Any else
    (if bytes_eq name (codes "current") then Some family.Current else
    (if bytes_eq name (codes "immutable") then Some family.Immutable else
    (if bytes_eq name (codes "keyless") then Some family.Keyless else None)))

-- the family that a word is, whatever the case of its letters
abbrev pub family_read : List ℕ → Option DatabaseType
family_read word = family_named (map to_ascii_lowercase word)

-- a value that wasn't given before
abbrev pub once : {T : Type 0} → Option T → Option T → Option T
once (Some before) value = None
once None value = value

abbrev pub with_mode : Given → Option SyncMode → Option Given
with_mode given None = None
with_mode given (Some m) = Some (record given { mode = Some m })

abbrev pub with_family : Given → Option DatabaseType → Option Given
with_family given None = None
with_family given (Some f) = Some (record given { family = Some f })

abbrev pub with_batch : Given → Option ℕ → Option Given
with_batch given None = None
with_batch given (Some n) = Some (record given { batch = Some n })

abbrev pub with_outstanding : Given → Option ℕ → Option Given
with_outstanding given None = None
with_outstanding given (Some n) = Some (record given { outstanding = Some n })

-- what was given, with this option; none where it is no option, was given before, or its value is none
abbrev pub with_option : List ℕ → List ℕ → Given → Option Given
with_option name value given =
    if bytes_eq name (codes "--mode") then with_mode given (once given.mode (mode_read value)) else
    (if bytes_eq name (codes "--family") then with_family given (once given.family (family_read value)) else
    (if bytes_eq name (codes "--batch-size") then with_batch given (once given.batch (number_of value)) else
    (if bytes_eq name (codes "--max-outstanding-requests") then with_outstanding given (once given.outstanding (number_of value)) else None)))

-- what was given, with these options: each is a name and a value behind it
abbrev pub options_of : List (List ℕ) → Given → Option Given
options_of [] given = Some given
options_of (name ∷ []) given = None
options_of (name ∷ value ∷ rest) given = option_and_then (options_of rest) (with_option name value given)

-- nothing was given
abbrev pub nothing_given : Given
nothing_given = record { mode = None; family = None; batch = None; outstanding = None }

-- these limits, where they are any
abbrev pub limits_of : ℕ → ℕ → Option LimitsView
limits_of batch outstanding = if nat_lt 0 batch && nat_lt 0 outstanding && nat_le outstanding 64 then Some (record { batch = batch; outstanding = outstanding }) else None

-- the form of this mode and family
abbrev pub form_with : SyncMode → DatabaseType → Option LimitsView → Option SyncForm
form_with m f None = None
form_with m f (Some limits) = if has_client_mode f m then Some (record { mode = m; family = f; limits = limits }) else None

-- the form with what was given, and the default of what wasn't; a family that has no client in this mode has no form
abbrev pub form_given : Given → Option SyncForm
form_given given = form_with (unwrap_or given.mode mode.Full) (unwrap_or given.family family.Any) (limits_of (unwrap_or given.batch 50) (unwrap_or given.outstanding 1))

-- the form of these options
abbrev pub form_if : Option Given → Option SyncForm
form_if None = None
form_if (Some given) = form_given given

-- what the words ask for: `sync`, an address, and options in any order, each at most once
abbrev pub form_of : List (List ℕ) → Option SyncForm
form_of (word ∷ address ∷ options) = if bytes_eq word (codes "sync") then form_if (options_of options nothing_given) else None
form_of _ = None
