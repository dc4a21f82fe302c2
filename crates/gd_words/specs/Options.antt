-- The command `serve` and the program that has it, as `clap` sees them.
use Rattle.std.specs.Prelude.{◌-◌, ◌^◌, true, Some, codes, pos}
use Rattle.clap.specs.Words.{App, Rule, Text, new_app, new_rule, with_rule, with_subcommand}
use Rattle.clap.specs.declared.builder.ArgAction.TheVariants.{Set}
use Rattle.clap.specs.declared.builder.ValueParser.TheVariants.{Signed, Unsigned}

-- `--name VALUE`, at most once
abbrev pub text_option : Text → Rule
text_option name = record (new_rule name) { long = Some name; action = Some Set; value_names = 1 }

abbrev pub port_option : Rule
port_option = record (text_option (codes "port")) { required = true; parser = Some (Signed (pos 1) (pos 65535)) }

abbrev pub connections_option : Rule
connections_option = record (text_option (codes "connections")) { parser = Some (Unsigned 0 18446744073709551615) }

abbrev pub serve_app : App
serve_app = with_rule (with_rule (new_app (codes "serve")) port_option) connections_option

-- a program of commands, without the name of the program before its words
abbrev pub bare_app : App
bare_app = record (new_app (codes "gd_drive")) {
  top = record ((new_app (codes "gd_drive")).top) {
    no_binary_name = true;
    has_version = true;
    subcommand_required = true;
    arg_required_else_help = true;
    disable_help_subcommand = true;
  };
}

abbrev pub program_app : App
program_app = with_subcommand bare_app serve_app.top
