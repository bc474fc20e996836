use Rattle.std.proofs.Common.{ap, ap₂, true, ◌≡◌, ◌∙◌}
use Rattle.std.proofs.lemmas.Result.{IfOk-weaker}
use Rattle.clap.specs.Words.{AddsSubcommand, App, Shape, app_of, with_subcommand}
use Rattle.clap.specs.declared.builder.Command.{Command}
use Rattle.clap.specs.Simple.{app_of_fields, on_top}
use Rattle.command_line.specs.Words.{command, top}
use Rattle.command_line.proofs.words.whole_command.Goals as goal

pub returns : goal.returns
returns c =
    let of_top = λ (a : App). a.top in
    let bare = λ (s : Shape). record s { no_binary_name = true } in
    let wanted = λ (s : Shape). record s { subcommand_required = true } in
    let bare_is = ap app_of_fields c.no_binary_name.ensures ∙ ap (on_top bare) c.new.ensures.app in
    let top_is : app_of c.subcommand_required.result ≡ top = ap app_of_fields c.subcommand_required.ensures ∙ ap (on_top wanted) bare_is in
    let replay_in = c.in_ok-subcommand.ensures.shape c.new-2.ensures.local ∙ ap₂ with_subcommand top_is (ap of_top c.new-2.ensures.app) in
    let check_in = c.in_ok-subcommand-2.ensures.shape c.new-3.ensures.local ∙ ap₂ with_subcommand replay_in (ap of_top c.new-3.ensures.app) in
    let show_in = c.in_ok-subcommand-3.ensures.shape c.in_ok-show_command.ensures.local ∙ ap₂ with_subcommand check_in (ap of_top c.in_ok-show_command.ensures.app) in
    let monitor_in = c.in_ok-subcommand-4.ensures.shape c.new-4.ensures.local ∙ ap₂ with_subcommand show_in (ap of_top c.new-4.ensures.app) in
    let audit_in = c.in_ok-subcommand-5.ensures.shape c.new-5.ensures.local ∙ ap₂ with_subcommand monitor_in (ap of_top c.new-5.ensures.app) in
    let follow_in = c.in_ok-subcommand-6.ensures.shape c.new-6.ensures.local ∙ ap₂ with_subcommand audit_in (ap of_top c.new-6.ensures.app) in
    let querier_in = c.in_ok-subcommand-7.ensures.shape c.in_ok-querier_command.ensures.local ∙ ap₂ with_subcommand follow_in (ap of_top c.in_ok-querier_command.ensures.app) in
    let live_in = c.in_ok-subcommand-8.ensures.shape c.in_ok-live_command.ensures.local ∙ ap₂ with_subcommand querier_in (ap of_top c.in_ok-live_command.ensures.app) in
    let gen_in = c.in_ok-subcommand-9.ensures.shape c.in_ok-generating_command.ensures.local ∙ ap₂ with_subcommand live_in (ap of_top c.in_ok-generating_command.ensures.app) in
    let demo_in : (all : Command) → AddsSubcommand c.in_ok-subcommand-9.field-0 c.in_ok-generating_command-2.field-0 all → app_of all ≡ command =
    λ all added. added.shape c.in_ok-generating_command-2.ensures.local ∙ ap₂ with_subcommand gen_in (ap of_top c.in_ok-generating_command-2.ensures.app) in
    record { app = IfOk-weaker _ _ _ demo_in c.subcommand-10.ensures }
