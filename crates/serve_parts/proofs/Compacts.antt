-- That compact mode is asked for with a family that has it.
use Rattle.std.proofs.Common.{◌≡◌, Bool, true, false, ◌&&◌, List, [], ◌∷◌, ℕ, Option, Some, None, is_some, codes, refl, sym, ap, subst, ◌∙◌, if◌then◌else◌}
use Rattle.std.specs.Str.{bytes_eq}
use Rattle.ledger_examples.specs.declared.names.DatabaseType.{DatabaseType}
use Rattle.ledger_examples.specs.declared.names.SyncMode.{SyncMode}
use Rattle.ledger_examples.specs.declared.names.SyncMode.TheVariants as mode
use Rattle.ledger_examples.specs.Names.{is_compact_family}
use Rattle.serve_parts.specs.Forms.{asked, fits_mode, fits_source, fits_numbers, fits_batch, is_supported, form_given, form_if, form_of, options_of, nothing_given}
use Rattle.serve_parts.specs.declared.form.ServeForm.{ServeForm}
use Rattle.serve_parts.specs.declared.options.Given.{Given}

first_of : (a b c d : Bool) → (a && b && c && d) ≡ true → a ≡ true
first_of true b c d e = refl
first_of false b c d e = absurd cc

supported : (named : Bool) (form : ServeForm) → is_supported named form ≡ true → fits_mode form.mode form.family named ≡ true
supported named form e = first_of (fits_mode form.mode form.family named) (fits_source form.source form.mode form.family) (fits_numbers form) (fits_batch form) e

compact_family : (m : SyncMode) (family : DatabaseType) (named : Bool) → m ≡ mode.Compact → fits_mode m family named ≡ true → is_compact_family family ≡ true
compact_family mode.Full family named m e = absurd cc
compact_family mode.Compact family named m e = e

module _ (given : Given) (form : ServeForm) where
  by_test : (b : Bool) → is_supported (is_some given.storage) (asked given) ≡ b → (if b then Some (asked given) else None) ≡ Some form → form.mode ≡ mode.Compact → is_compact_family form.family ≡ true
  by_test true s e m =
      let same : asked given ≡ form = cc in
      compact_family form.mode form.family (is_some given.storage) m (supported (is_some given.storage) form (subst (λ (f : ServeForm). is_supported (is_some given.storage) f ≡ true) same s))
  by_test false s e m = absurd cc

given_compact : (given : Option Given) (form : ServeForm) → form_if given ≡ Some form → form.mode ≡ mode.Compact → is_compact_family form.family ≡ true
given_compact None form e m = absurd cc
given_compact (Some given) form e m = by_test given form (is_supported (is_some given.storage) (asked given)) refl e m

by_word : (b : Bool) (given : Option Given) (form : ServeForm) → (if b then form_if given else None) ≡ Some form → form.mode ≡ mode.Compact → is_compact_family form.family ≡ true
by_word true given form e m = given_compact given form e m
by_word false given form e m = absurd cc

-- a form in compact mode has such a family
pub form_compact : (words : List (List ℕ)) (form : ServeForm) → Some form ≡ form_of words → form.mode ≡ mode.Compact → is_compact_family form.family ≡ true
form_compact [] form e m = absurd cc
form_compact (word ∷ options) form e m = by_word (bytes_eq word (codes "serve")) (options_of options nothing_given) form (sym e) m
