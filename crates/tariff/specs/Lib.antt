-- Tariff has the packets of a recipe and the saving of a job.
pub mod Tariff
