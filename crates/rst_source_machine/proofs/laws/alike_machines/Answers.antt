use Rattle.rst_source_machine.proofs.Machines.{turned, keeps, same_outs, same_after, same_over, aligns_over, never_over, signs_over}
use Rattle.rst_source_machine.proofs.laws.alike_machines.Goals as goal

pub returns : goal.returns
returns c = record {
  both_ways = turned;
  keep_states = keeps;
  outs = λ l r state word a keep s w. same_outs l r a keep state word s w;
  after = λ l r state word a keep s w. same_after l r a keep state word s w;
  same = λ l k r n s t a b ports keep_l keep_r is_s is_t same. same_over l k r n a b ports keep_l keep_r s t is_s is_t same;
  aligns = λ l k r n s t word a b ports keep_l keep_r is_s is_t w aligns. aligns_over l k r n a b ports keep_l keep_r s t word is_s is_t w aligns;
  never = never_over;
  pattern_signs = signs_over;
}
