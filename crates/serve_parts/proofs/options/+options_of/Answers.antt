use Rattle.std.proofs.Common.{◌≡◌, ap, sym, ◌∙◌, Some, string_bytes}
use Rattle.serve_parts.specs.Forms.{with_option}
use Rattle.serve_parts.proofs.Reading.{opened}
use Rattle.serve_parts.proofs.options.+options_of.Goals as goal

pub returns-in_ok-given-in-len2-up : goal.returns-in_ok-given-in-len2-up
returns-in_ok-given-in-len2-up t c =
    let x = c.in_ok-given-in-len2-up in
    let w : with_option (string_bytes c.name-item.result) (string_bytes c.value-item.result) c.args.given ≡ Some x.given =
    ap (λ z. with_option z (string_bytes c.value-item.result) c.args.given) (sym c.as_str.ensures.value) ∙ (ap (λ z. with_option c.as_str.result.now z c.args.given) (sym c.as_str-in-len2-up.ensures.value) ∙ (sym c.with_option.ensures ∙ x.was)) in
    opened string_bytes c.args.words.now c.name-item.result c.value-item.result c.args.given x.given c.options_of.result c.in-len2-up.len_at_least c.name-item.is c.value-item.is w c.options_of.ensures
