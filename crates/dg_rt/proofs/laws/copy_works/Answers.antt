use Rattle.dg_rt.proofs.Copying as copying
use Rattle.dg_rt.proofs.laws.copy_works.Goals as goal

pub returns : goal.returns
returns c = λ p has sh is typed output drawn S memory cells h st j end low le room small x v q n absent. copying.copy_works p has sh is typed output drawn S st.sound n end room small (record { memory = memory; cells = cells; holds = h; stands = st }) x j v q absent low le
