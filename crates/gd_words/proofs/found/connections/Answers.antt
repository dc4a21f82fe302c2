use Rattle.std.specs.Str.Parse.{ExplainsUnsignedError, HasUnsignedDigitsIfOk, ParsesUnsigned}
use Rattle.clap.specs.Words.{found_of}
use Rattle.gd_words.proofs.Numbers.{read_number}
use Rattle.gd_words.proofs.found.connections.Goals as goal

pub returns : goal.returns
returns c =
    read_number 64 (λ bs r. ParsesUnsigned 64 10 bs r × ExplainsUnsignedError 10 bs r × HasUnsignedDigitsIfOk bs r) (λ text r given. given.0)
    (found_of c.args.matches.now) _ c.get_one.result c.get_one.ensures.none c.get_one.ensures.value
