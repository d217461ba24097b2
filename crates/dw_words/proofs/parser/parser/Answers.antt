use Rattle.std.proofs.Common.{rules, ap, ap₂, ◌≡◌, ◌∙◌, true}
use Rattle.clap.specs.Simple.{app_of_fields}
use Rattle.clap.specs.Words.{App, app_of, rule_of, with_rule}
use Rattle.dw_words.specs.Parser.{bare_app, rest_rule, stats_rule, workers_rule}
use Rattle.dw_words.proofs.parser.parser.Goals as goal

pub returns : goal.returns
returns c =
    let workers_is : rule_of c.long-workers.result ≡ workers_rule = search rules in
    let stats_is : rule_of c.action-stats.result ≡ stats_rule = search rules in
    let rest_is : rule_of c.action-rest.result ≡ rest_rule = search rules in
    let named = ap app_of_fields c.no_binary_name.ensures ∙ ap (λ (a : App). record a { top = record a.top { no_binary_name = true } }) c.new-4.ensures.app in
    let bare : app_of c.disable_help_flag-command.result ≡ bare_app =
    ap app_of_fields c.disable_help_flag-command.ensures ∙ ap (λ (a : App). record a { top = record a.top { disable_help_flag = true } }) named in
    c.in_ok-command-3.ensures.shape (search rules)
    ∙ ap₂ with_rule (c.in_ok-command-2.ensures.shape (search rules)
    ∙ ap₂ with_rule (c.in_ok-command.ensures.shape (search rules) ∙ ap₂ with_rule bare workers_is) stats_is) rest_is
