-- A name that is read is the one that the word is.
use Rattle.std.proofs.Common.{◌≡◌, Bool, true, false, List, [], ◌∷◌, ℕ, map, take, drop, length, ◌-◌, ◌≤◌, arith, codes, Option, Some, None, refl, sym, ap, ◌∙◌, if◌then◌else◌}
use Rattle.std.specs.Prelude.{MatchOption, option_and_then, get_or}
use Rattle.std.specs.Char.{to_ascii_lowercase}
use Rattle.std.specs.Str.{bytes_eq}
use Rattle.std.proofs.Math.Seq.{take-length}
use Rattle.std.proofs.lemmas.Slice.Eq.{bytes_eq-Decides}
use Rattle.ledger_examples.specs.declared.names.SyncMode.{SyncMode}
use Rattle.ledger_examples.specs.declared.names.SyncMode.TheVariants as mode
use Rattle.ledger_examples.specs.declared.names.DatabaseType.{DatabaseType}
use Rattle.ledger_examples.specs.declared.names.DatabaseType.TheVariants as family
use Rattle.ledger_examples.specs.declared.names.StorageKind.{StorageKind}
use Rattle.ledger_examples.specs.declared.names.StorageKind.TheVariants as storage
use Rattle.ledger_examples.specs.Names.{mode_name, database_name, storage_name, Reads}
use Rattle.serve_parts.specs.declared.options.Given.{Given}
use Rattle.serve_parts.specs.Forms.{mode_named, mode_read, family_named, family_read, storage_named, storage_read, with_option, options_of}

-- a test that fails leaves the other branch
other : {A : Type 0} (b : Bool) (x y : A) → (b ≡ true → ⊥) → (if b then x else y) ≡ y
other true x y h = absurd (h refl)
other false x y h = refl

named : (mode : SyncMode) → mode_named (mode_name mode) ≡ Some mode
named mode.Full = refl
named mode.Compact = refl

family_is : (database : DatabaseType) → family_named (database_name database) ≡ Some database
family_is family.Any = refl
family_is family.Current = refl
family_is family.Immutable = refl
family_is family.Keyless = refl

kind_is : (kind : StorageKind) → storage_named (storage_name kind) ≡ Some kind
kind_is storage.Full = refl
kind_is storage.Compact = refl

-- the test of a name that the word isn't
differs : (word name : List ℕ) → (Reads word name → ⊥) → bytes_eq (map to_ascii_lowercase word) name ≡ true → ⊥
differs word name h e = h ((bytes_eq-Decides (map to_ascii_lowercase word) name).0 e)

pub mode_is : (word : List ℕ) (result : Option SyncMode) → MatchOption result ((mode : SyncMode) → Reads word (mode_name mode) → ⊥) (λ mode. Reads word (mode_name mode)) → result ≡ mode_read word
mode_is word (Some m) h = sym (ap mode_named h ∙ named m)
mode_is word None h =
    sym (other (bytes_eq (map to_ascii_lowercase word) (codes "full")) _ _ (differs word _ (h mode.Full))
    ∙ other (bytes_eq (map to_ascii_lowercase word) (codes "compact")) _ _ (differs word _ (h mode.Compact)))

pub database_is : (word : List ℕ) (result : Option DatabaseType) → MatchOption result ((database : DatabaseType) → Reads word (database_name database) → ⊥) (λ database. Reads word (database_name database)) → result ≡ family_read word
database_is word (Some d) h = sym (ap family_named h ∙ family_is d)
database_is word None h =
    sym (other (bytes_eq (map to_ascii_lowercase word) (codes "any")) _ _ (differs word _ (h family.Any))
    ∙ (other (bytes_eq (map to_ascii_lowercase word) (codes "current")) _ _ (differs word _ (h family.Current))
    ∙ (other (bytes_eq (map to_ascii_lowercase word) (codes "immutable")) _ _ (differs word _ (h family.Immutable))
    ∙ other (bytes_eq (map to_ascii_lowercase word) (codes "keyless")) _ _ (differs word _ (h family.Keyless)))))

pub storage_is : (word : List ℕ) (result : Option StorageKind) → MatchOption result ((kind : StorageKind) → Reads word (storage_name kind) → ⊥) (λ kind. Reads word (storage_name kind)) → result ≡ storage_read word
storage_is word (Some kind) h = sym (ap storage_named h ∙ kind_is kind)
storage_is word None h =
    sym (other (bytes_eq (map to_ascii_lowercase word) (codes "full")) _ _ (differs word _ (h storage.Full))
    ∙ other (bytes_eq (map to_ascii_lowercase word) (codes "compact")) _ _ (differs word _ (h storage.Compact)))

-- a name, a value, and the options behind them
pub opened : {W : Type 0} (b : W → List ℕ) (words : List W) (name value : W) (given after : Given) (result : Option Given) → 2 ≤ length words → name ≡ get_or words 0 name → value ≡ get_or words 1 value →
    with_option (b name) (b value) given ≡ Some after → result ≡ options_of (map b (take (length words - 2) (drop 2 words))) after → result ≡ options_of (map b words) given
opened b [] name value given after result l p q w r = absurd (omega (arith, l))
opened b (x ∷ []) name value given after result l p q w r = absurd (omega (arith, l))
opened b (x ∷ y ∷ rest) name value given after result l p q w r =
    let e : with_option (b x) (b y) given ≡ Some after = ap (λ z. with_option (b z) (b y) given) (sym p) ∙ (ap (λ z. with_option (b name) (b z) given) (sym q) ∙ w) in
    let all : take (length (x ∷ y ∷ rest) - 2) rest ≡ rest = ap (λ k. take k rest) (omega arith) ∙ take-length rest in
    r ∙ (ap (λ z. options_of (map b z) after) all ∙ sym (ap (option_and_then (options_of (map b rest))) e))
