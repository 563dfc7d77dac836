use Rattle.std.specs.Prelude.{◌≡◌, ℕ, Bool, true, false, List, codes, map}
use Rattle.std.specs.Char.{to_ascii_lowercase}
use Rattle.ledger_examples.specs.declared.names.SyncMode.{SyncMode}
use Rattle.ledger_examples.specs.declared.names.SyncMode.TheVariants as mode
use Rattle.ledger_examples.specs.declared.names.DatabaseType.{DatabaseType}
use Rattle.ledger_examples.specs.declared.names.DatabaseType.TheVariants as family
use Rattle.ledger_examples.specs.declared.names.StorageKind.{StorageKind}
use Rattle.ledger_examples.specs.declared.names.StorageKind.TheVariants as storage

-- the name of a mode
abbrev pub mode_name : SyncMode → List ℕ
mode_name mode.Full = codes "full"
mode_name mode.Compact = codes "compact"

-- the name of a family of databases
abbrev pub database_name : DatabaseType → List ℕ
database_name family.Any = codes "any"
database_name family.Current = codes "current"
database_name family.Immutable = codes "immutable"
database_name family.Keyless = codes "keyless"

-- the name of a kind of storage
abbrev pub storage_name : StorageKind → List ℕ
storage_name storage.Full = codes "full"
storage_name storage.Compact = codes "compact"

-- a text reads as this name, whatever the case of its letters
abbrev pub Reads : List ℕ → List ℕ → Type 0
Reads text name = map to_ascii_lowercase text ≡ name

-- a family of which a log can be kept without its operations
abbrev pub is_compact_family : DatabaseType → Bool
is_compact_family family.Any = false
is_compact_family family.Current = false
is_compact_family family.Immutable = true
is_compact_family family.Keyless = true

-- a client of this family can ask in this mode
abbrev pub has_client_mode : DatabaseType → SyncMode → Bool
has_client_mode database mode.Full = true
has_client_mode database mode.Compact = is_compact_family database
