-- Which settings exist, the plain ones, and a change of the base window.
use Rattle.response.specs.declared.base.BaseWindow.{BaseWindow}
use Rattle.response.specs.declared.settings.Proposal.{Proposal}
use Rattle.response.specs.declared.settings.Settings.{Settings}
use Rattle.response.specs.Limits.{IsRate, IsReference, IsDeadBand, IsTrigger, IsBase}

-- each of the six lies within its limits
pub record Allowed (p : Proposal) : Type 0 where
  pub rate : IsRate p.rate
  pub reference : IsReference p.reference_dip
  pub dead_band : IsDeadBand p.dead_band
  pub switch : IsTrigger p.switch_dip
  pub base : IsBase p.base_begin p.base_end

-- the six numbers of settings
abbrev pub numbers_of : Settings → Proposal
numbers_of s = record {
  rate = s.response.rate.mhz_per_s;
  reference_dip = s.response.reference_dip;
  dead_band = s.response.dead_band;
  switch_dip = s.response.switch_dip.dip;
  base_begin = s.base.begin;
  base_end = s.base.end;
}

-- the plain settings
abbrev pub plain_numbers : Proposal
plain_numbers = record { rate = 125; reference_dip = 500; dead_band = 150; switch_dip = 200; base_begin = 20000; base_end = 8000 }

-- settings with another base window
abbrev pub with_base : Settings → BaseWindow → Settings
with_base s w = record { response = s.response; base = w }
