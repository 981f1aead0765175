use Rattle.rst_source_machine.proofs.laws.accepted_designs_are_designs.Goals as goal

pub returns : goal.returns
returns c flat e = record {
  widths = c.widths_are_small.ensures flat e;
  sound = c.units_are_sound.ensures flat e;
  once = c.units_drive_once.ensures flat e;
  single = c.one_driver.ensures flat e;
  wired = c.wires_are_driven.ensures flat e;
  resets = c.resets_are_inputs.ensures flat e;
}
