-- What is asked of the files that are read, by the settings.
use Rattle.scip_build.specs.declared.read_form.ReadForm.{ReadForm}
use Rattle.scip_build.specs.declared.settings.Settings.{Settings}

abbrev pub form_of : Settings → ReadForm
form_of settings = record {
  facts = record { comments = settings.comments; details = settings.details };
  options = settings.options;
}
