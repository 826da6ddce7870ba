-- No two services have one code: a code can be read back.
use Rattle.std.proofs.Common.{◌≡◌, ℕ, cond, eqb, List, length, get_or, sym, refl, ap, ◌∙◌}
use Rattle.response.specs.declared.service.Service.{Service}
use Rattle.response.specs.declared.service.Service.TheVariants.{R6, R60, R5, L6, L60, L5}
use Rattle.response.specs.Services.{listed, Apart}

-- the one of three services of a side whose code ends in 6, 60 or 5
abbrev ending : List ℕ → (six sixty five : Service) → Service
ending text six sixty five = cond (eqb (get_or text 1 0) 53) five (cond (eqb (length text) 3) sixty six)

abbrev read_back : List ℕ → Service
read_back text = cond (eqb (get_or text 0 0) 82) (ending text R6 R60 R5) (ending text L6 L60 L5)

reads_back : (s : Service) → read_back (listed s).code ≡ s
reads_back R6 = refl
reads_back R60 = refl
reads_back R5 = refl
reads_back L6 = refl
reads_back L60 = refl
reads_back L5 = refl

pub apart : Apart
apart s t e = sym (reads_back s) ∙ (ap read_back e ∙ reads_back t)
