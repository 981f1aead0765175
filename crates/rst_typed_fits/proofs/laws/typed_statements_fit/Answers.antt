use Rattle.rst_typing.specs.Typing.{stmt_faults}
use Rattle.rst_typed_fits.proofs.Leaves.{none_first}
use Rattle.rst_typed_fits.proofs.Fitting.{stmt_fits, stmt_sound, stmt_targets}
use Rattle.rst_typed_fits.proofs.laws.typed_statements_fit.Goals as goal

pub returns : goal.returns
returns c = record {
  fits = λ room names blocking s right inside none kind. stmt_fits room names right inside blocking s (none_first (stmt_faults names s) none) kind;
  sound = λ room names s right inside none. stmt_sound room names right inside s (none_first (stmt_faults names s) none);
  targets = λ names s right none can. stmt_targets names right s (none_first (stmt_faults names s) none) can;
}
