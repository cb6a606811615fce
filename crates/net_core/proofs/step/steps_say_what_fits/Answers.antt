use Rattle.net_core.specs.Walks.{Kept}
use Rattle.net_core.proofs.StepLaws.{fits_from_steps, step_kept}
use Rattle.net_core.proofs.step.steps_say_what_fits.Goals as goal

pub returns : goal.returns
returns c = λ net keep t. (λ fits step a goes. step_kept net (Kept keep) t step a fits goes, λ kept. fits_from_steps net (Kept keep) t kept)
